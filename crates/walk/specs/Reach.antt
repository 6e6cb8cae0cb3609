-- Reaching (document 01: "what reachable means (a commit reaches itself)"; git's rev-list document), and lists without repeats.
-- Assumes nothing.
use Rattle.std.specs.Prelude.{◌≡◌}
use mathlib.Core.List.{List, [], ◌∷◌, Memᴰ}
use Rattle.hash.specs.Bytes.{Id}
use Rattle.walk.specs.Lookup.{World, from_store, parents_of}

abbrev pub Mem {ℓ} : {A : Type ℓ} → A → List A → Type ℓ
Mem a l = Memᴰ a l

-- no id twice
pub data NoDup : List Id → Type 0 where
  empty : NoDup []
  more : {x : Id} {l : List Id} → (Mem x l → ⊥) → NoDup l → NoDup (x ∷ l)

-- "commits reach others over the book's parent lines …; an absent or unreadable id is reached too, as a commit that isn't readable, and
-- leads no further"
unfoldable pub links : World → Id → List Id
links w x = parents_of (from_store (w.store x))

-- the last id reaches the first
pub data Reaches (w : World) (y : Id) : Id → Type 0 where
  itself : {x : Id} → x ≡ y → Reaches w y x
  through : {x p : Id} → Mem p (links w x) → Reaches w y p → Reaches w y x
