-- Card 8 (document 02): "For two tips, give a best common ancestor as git's merge-base document has it … Any one of them will do. Say none exactly
-- when no commit is reachable from both. A tip counts as its own ancestor. It works from the book alone and supposes nothing of clocks. A body
-- set with a cycle may have common ancestors and no best one. Refused: 23 tangled reach, exactly then; before it 13, for a commit reachable
-- from either tip that is not readable, and before that 2, 4 and 1 (P with two tips and no graph)." Assumes nothing.
use Rattle.std.specs.Prelude.{ℕ, cond, List, [], ◌∷◌, ◌++◌, length, leb, None, Option, Some, Result, Ok, Err}
use Rattle.hash.specs.Bytes.{Id, width_of}
use Rattle.hash.specs.declared.Kind.{Kind}
use Rattle.object.specs.Ids.{padded}
use Rattle.object.specs.declared.ObjectId.{ObjectId}
use Rattle.odb.specs.Store.{store_is_ok}
use Rattle.walk.specs.declared.Sorting.TheVariants.{BreadthFirst}
use Rattle.walk.specs.declared.Parents.TheVariants.{All}
use Rattle.walk.specs.declared.Refusal.{Refusal}
use Rattle.walk.specs.declared.Refusal.TheVariants.{BufferTooSmall, InputTooLarge, CorruptStore, UnreadableReach, TangledReach}
use Rattle.walk.specs.Lookup.{World}
use Rattle.walk.specs.Opening.{Input, Lengths, room_for}
use Rattle.opening.specs.Checks.{input_of}
use Rattle.reach.specs.Search.{Stuck, AllReadable}
use Rattle.parting.specs.Best.{Common, Best}

-- ---- 2, 4 and 1

-- "two tips and no graph"; of the settings the kind of ids alone plays a part in P
abbrev pub tips_input : Kind → List ℕ → Id → Id → Input
tips_input kind store a b = input_of store [] (a ++ b) [] [] (record { sorting = BreadthFirst; parents = All; kind = kind })

-- "before that 2, 4 and 1": the first that applies
unfoldable pub early_refusal : Kind → List ℕ → Id → Id → Lengths → Option Refusal
early_refusal kind store a b l =
    let one : Option Refusal = cond (room_for (tips_input kind store a b) l) None (Some BufferTooSmall) in
    let four : Option Refusal = cond (store_is_ok (width_of kind) store) one (Some CorruptStore) in
    cond (leb (length store) 16777216) four (Some InputTooLarge)

-- ---- the answers

-- what is said of two tips: a commit, none, or why nothing is said
abbrev pub MergeBase : Type 0
MergeBase = Result (Option ObjectId) Refusal

abbrev pub no_base : MergeBase
no_base = Ok None

abbrev pub refused_base : Refusal → MergeBase
refused_base r = Err r

abbrev pub base_at : Id → MergeBase
base_at x = Ok (Some (record { bytes = padded x }))

-- what is said of the tips a and b: 13; none; a best one; 23
pub data Parts (w : World) (a b : Id) : MergeBase → Type 0 where
  unreadable : Stuck w (a ∷ b ∷ []) → Parts w a b (refused_base UnreadableReach)
  nothing : AllReadable w (a ∷ b ∷ []) → ((x : Id) → Common w a b x → ⊥) → Parts w a b no_base
  best : AllReadable w (a ∷ b ∷ []) → (x : Id) → Best w a b x → Parts w a b (base_at x)
  tangled : AllReadable w (a ∷ b ∷ []) → (x : Id) → Common w a b x → ((y : Id) → Best w a b y → ⊥) → Parts w a b (refused_base TangledReach)
