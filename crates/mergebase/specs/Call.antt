-- Card 11 (document 02): "Of all best common ancestors give the first: greatest book seconds, then the smallest id. When none is said and when it is
-- refused remain as they were." And the call. Assumes nothing.
use Rattle.std.specs.Prelude.{ℕ, ◌≡◌, List, [], ◌∷◌, None, Some}
use Rattle.hash.specs.Bytes.{Id, width_of}
use Rattle.hash.specs.declared.Kind.{Kind}
use Rattle.walk.specs.declared.Refusal.{Refusal}
use Rattle.walk.specs.declared.Refusal.TheVariants.{UnreadableReach, TangledReach}
use Rattle.walk.specs.Lookup.{World, world_of}
use Rattle.walk.specs.Opening.{Lengths}
use Rattle.reach.specs.Search.{Stuck, AllReadable}
use Rattle.reach.specs.Memory.{Lent}
use Rattle.parting.specs.Best.{Common, Best}
use Rattle.parting.specs.First.{First}
use Rattle.mergebase.specs.Parting.{MergeBase, early_refusal, no_base, refused_base, base_at}

-- what is said of the tips a and b: 13; none; the first of the best ones; 23
pub data FirstParts (w : World) (a b : Id) : MergeBase → Type 0 where
  unreadable : Stuck w (a ∷ b ∷ []) → FirstParts w a b (refused_base UnreadableReach)
  nothing : AllReadable w (a ∷ b ∷ []) → ((x : Id) → Common w a b x → ⊥) → FirstParts w a b no_base
  first : AllReadable w (a ∷ b ∷ []) → (x : Id) → First w a b x → FirstParts w a b (base_at x)
  tangled : AllReadable w (a ∷ b ∷ []) → (x : Id) → Common w a b x → ((y : Id) → Best w a b y → ⊥) → FirstParts w a b (refused_base TangledReach)

-- after 2, 4 and 1 nothing is altered; otherwise what is said is right, whatever a graph file would say
pub record MergeBaseSays (kind : Kind) (store : List ℕ) (a b : Id) (l : Lengths) (m m' : Lent) (levels levels' : List ℕ) (r : MergeBase) : Type 0 where
  pub early : (n : Refusal) → early_refusal kind store a b l ≡ Some n → (r ≡ refused_base n) × (m' ≡ m) × (levels' ≡ levels)
  pub parts : early_refusal kind store a b l ≡ None → (g : List ℕ) → FirstParts (world_of (width_of kind) store g) a b r
