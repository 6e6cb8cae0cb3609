-- The call (document 02, card 12): "Say whether the cone can force it however the bed chooses, and if so from a start off the list, its first forcing
-- parent in header order. … Moves are read from the book alone. Refused: 25 d over 12, before any reading; then 2 to 4; then 13 for an unreadable commit
-- within d parent steps of the start, the start included." Everything computes. Assumes nothing.
use Rattle.std.specs.Prelude.{ℕ, ◌-◌, ◌%◌, ◌≡◌, cond, ◌&&◌, List, [], length, get_or, eqb, leb, None, Option, Some, Result, Ok, Err}
use Rattle.hash.specs.Bytes.{Id, among}
use Rattle.object.specs.Ids.{padded}
use Rattle.odb.specs.Store.{store_is_ok}
use Rattle.walk.specs.declared.Refusal.{Refusal}
use Rattle.walk.specs.declared.Refusal.TheVariants.{InputTooLarge, PartialId, CorruptStore, UnreadableReach, TooManyMoves}
use Rattle.walk.specs.Lookup.{World}
use Rattle.walk.specs.Opening.{list_ids, list_limit}
use Rattle.walk.specs.Reach.{links}
use Rattle.memo.specs.AtHand.{store_alone}
use Rattle.withinreach.specs.Within.{readable_within}
use Rattle.moves.specs.Game.{first_of, coneForces, bedForced}
use Rattle.trace.specs.declared.Prospect.{Prospect}
use Rattle.trace.specs.declared.Prospect.TheVariants.{NotForced, AtStart, Forced}

-- "d at most 12"
abbrev pub most_moves : ℕ
most_moves = 12

-- 25, then 2 to 4: the first that applies
unfoldable pub early_refusal : ℕ → List ℕ → List ℕ → ℕ → Option Refusal
early_refusal width store list d =
    let four : Option Refusal = cond (store_is_ok width store) None (Some CorruptStore) in
    let three : Option Refusal = cond (eqb (length list % width) 0) four (Some PartialId) in
    let two : Option Refusal = cond (leb (length store) 16777216 && leb (length list) (list_limit width)) three (Some InputTooLarge) in
    cond (leb d most_moves) two (Some TooManyMoves)

-- ---- the answers

-- what is said of a start, or why nothing is said
abbrev pub Traced : Type 0
Traced = Result Prospect Refusal

abbrev pub forced_by : ℕ → Id → Prospect
forced_by i x = Forced i (record { bytes = padded x })

-- the number of the first parent from which the bed, with one move fewer, cannot evade
abbrev pub first_forcing : World → List Id → ℕ → Id → ℕ
first_forcing w list d x = first_of (λ p. bedForced (d - 1) w list p) (links w x)

-- where nothing is refused
unfoldable pub trace_from : World → List Id → ℕ → Id → Prospect
trace_from w list d x =
    let i = first_forcing w list d x in
    let moved : Prospect = cond (coneForces d w list x) (forced_by i (get_or (links w x) i [])) NotForced in
    cond (among x list) AtStart moved

-- after 2 to 4: 13, or the answer
unfoldable pub trace_within : World → List Id → ℕ → Id → Traced
trace_within w list d x = let r : Traced = Ok (trace_from w list d x) in cond (readable_within d w x) r (Err UnreadableReach)

abbrev pub or_refused : Option Refusal → Traced → Traced
or_refused None r = r
or_refused (Some n) r = Err n

-- the whole answer
unfoldable pub trace_of : ℕ → List ℕ → List ℕ → ℕ → Id → Traced
trace_of width store list d x = or_refused (early_refusal width store list d) (trace_within (store_alone width store) (list_ids width list) d x)

-- what the call answers, whatever the memo m; 25 and 2 to 4 alter nothing
pub record TraceSays (width : ℕ) (store list : List ℕ) (d : ℕ) (x : Id) (m m' : List ℕ) (r : Traced) : Type 0 where
  pub answer : r ≡ trace_of width store list d x
  pub early : (n : Refusal) → early_refusal width store list d ≡ Some n → m' ≡ m
