-- More moves never lose, said of the call: where the cone gets its way within d moves, and nothing is refused with one move more, it gets its way then. Only 25 and 13
-- can come in between, since 2 to 4 do not look at the moves. Assumes nothing.
use Rattle.std.specs.Prelude.{None, Option, Some, Ok, Err}
use mathlib.Core.Path.{◌≡◌, refl, sym, ◌∙◌, ap}
use Prim.Native.Nat.{ℕ, suc}
use mathlib.Core.Bool.{Bool, true, false, cond}
use mathlib.Core.List.{List, []}
use lib.ListN.{get_or}
use Rattle.hash.specs.Bytes.{Id, among}
use Rattle.hash.proofs.Tests.{by_cases, clash}
use Rattle.walk.specs.declared.Refusal.{Refusal}
use Rattle.walk.specs.declared.Refusal.TheVariants.{UnreadableReach}
use Rattle.walk.specs.Lookup.{World}
use Rattle.walk.specs.Opening.{list_ids}
use Rattle.walk.specs.Reach.{links}
use Rattle.memo.specs.AtHand.{store_alone}
use Rattle.withinreach.specs.Within.{readable_within}
use Rattle.moves.specs.Game.{coneForces}
use Rattle.moves.proofs.Turns.{forced-listed}
use Rattle.moves.proofs.More.{more-moves}
use Rattle.trace.specs.declared.Prospect.{Prospect}
use Rattle.trace.specs.declared.Prospect.TheVariants.{NotForced, AtStart, Forced}
use Rattle.trace.specs.Call.{Traced, early_refusal, forced_by, first_forcing, trace_from, trace_within, or_refused, trace_of}

-- the cone gets its way
abbrev pub gets_way : Traced → Bool
gets_way (Ok NotForced) = false
gets_way (Ok AtStart) = true
gets_way (Ok (Forced i p)) = true
gets_way (Err r) = false

by_way : (b : Bool) (i : ℕ) (y : Id) → gets_way (Ok (cond b (forced_by i y) NotForced)) ≡ b
by_way true i y = refl
by_way false i y = refl

pub way_is : (w : World) (list : List Id) (d : ℕ) (x : Id) → gets_way (Ok (trace_from w list d x)) ≡ coneForces d w list x
unfolding trace_from
way_is w list d x = by_cases (among x list)
    (λ t. ap (λ (b : Bool). gets_way (Ok (cond b AtStart moved))) t ∙ sym (forced-listed w list false d x t))
    (λ t. ap (λ (b : Bool). gets_way (Ok (cond b AtStart moved))) t ∙ by_way (coneForces d w list x) (first_forcing w list d x) (get_or (links w x) (first_forcing w list d x) []))
  where
    moved : Prospect
    moved = cond (coneForces d w list x) (forced_by (first_forcing w list d x) (get_or (links w x) (first_forcing w list d x) [])) NotForced

within_way : (b : Bool) (r : Traced) → gets_way (cond b r (Err UnreadableReach)) ≡ true → gets_way r ≡ true
within_way true r e = e
within_way false r e = clash e refl

or_way : (o : Option Refusal) (r : Traced) → gets_way (or_refused o r) ≡ true → gets_way r ≡ true
or_way None r e = e
or_way (Some n) r e = clash e refl

pub more_traces : (width : ℕ) (store list : List ℕ) (d : ℕ) (x : Id) → early_refusal width store list (suc d) ≡ None → readable_within (suc d) (store_alone width store) x ≡ true
    → gets_way (trace_of width store list d x) ≡ true → gets_way (trace_of width store list (suc d) x) ≡ true
unfolding trace_of trace_within
more_traces width store list d x o h e =
    let w = store_alone width store in
    let l = list_ids width list in
    let g : gets_way (Ok (trace_from w l d x)) ≡ true =
    within_way (readable_within d w x) (Ok (trace_from w l d x)) (or_way (early_refusal width store list d) (cond (readable_within d w x) (Ok (trace_from w l d x)) (Err UnreadableReach)) e) in
    let m : coneForces (suc d) w l x ≡ true = more-moves w l d false x (sym (way_is w l d x) ∙ g) in
    ap (λ (q : Option Refusal). gets_way (or_refused q (cond (readable_within (suc d) w x) (Ok (trace_from w l (suc d) x)) (Err UnreadableReach)))) o
    ∙ ap (λ (b : Bool). gets_way (cond b (Ok (trace_from w l (suc d) x)) (Err UnreadableReach))) h
    ∙ way_is w l (suc d) x ∙ m
