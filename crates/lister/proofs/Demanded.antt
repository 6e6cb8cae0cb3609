-- The third demand for a caller of `list` alone: what is proved of the walk's list and of its answers, read off what `list` gives back. Assumes nothing.
use Rattle.std.specs.Prelude.{Result, Err, None, Ok}
use Rattle.walk.specs.declared.Refusal.{Refusal}
use mathlib.Core.Path.{◌≡◌, refl, sym, ◌∙◌, ap, subst}
use Prim.Native.Nat.{ℕ, ◌+◌, ◌*◌, ◌/◌, ◌<◌}
use mathlib.Core.Bool.{true}
use mathlib.Core.List.{List}
use native.Mathlib.Omega.{arith}
use lib.ListN.{length, take, drop}
use lib.Seq.{take_all}
use Rattle.hash.specs.Bytes.{Id, set_down, ids_of}
use Rattle.hash.proofs.Widths.{width_least}
use Rattle.walk.specs.State.{State}
use Rattle.walk.specs.Opening.{Input, width_in, walk_of, list_ids, refusal, room_for, P, Opening, closed, opened, open_walk}
use Rattle.walk.specs.Next.{Answer}
use Rattle.walk.specs.Calls.{answer_at_call}
use Rattle.walk.specs.Demand.{Premises}
use Rattle.walk.specs.AnyInput.{RefusedByCall}
use Rattle.walk.specs.Given.{joined}
use Rattle.walk.proofs.Calls.{answers_at}
use Rattle.walk.proofs.Refused.{refused_by-call}
use Rattle.opening.specs.Checks.{checked_by}
use Rattle.opening.proofs.Opened.{opens}
use Rattle.traverse.specs.Contract.{Lent, lengths_of}
use Rattle.lister.specs.declared.Listing.{Listing}
use Rattle.driver.specs.Walked.{all_answers, whole_list}
use Rattle.driver.proofs.Whole.{Wide, list-wide, list-once, list-within, ends-from, list_all, listed-whole}
use Rattle.lister.specs.Walked.{first_refusal}
use Rattle.lister.specs.Says.{ListSays}
use Rattle.lister.specs.Demand.{ReadsAs, Delivers, AnyListing, ListDemand}
use Rattle.lister.proofs.SetDown.{read_back, kept-past}
use Rattle.lister.proofs.Refusals.{hands_none, none_first, first_of_lem}

reads_as : (width : ℕ) → 0 < width → (list : List Id) (ids ids' : List ℕ) → Wide width list → ids' ≡ set_down ids 0 (joined (take (length ids / width) list)) → ReadsAs width list ids ids'
reads_as width pos list ids ids' w e = record {
  front = λ k h g. ap (ids_of width k) e ∙ read_back width pos ids list k w h g;
  whole = λ g. ap (ids_of width (length list)) e ∙ read_back width pos ids list (length list) w (omega arith) g ∙ take_all (length list) list (omega arith);
  past = λ g. ap (drop (width * length list)) e ∙ kept-past width pos ids list (length list) w refl g;
}

module _ (i : Input) (m : Lent) (ids : List ℕ) (l : Listing) (m' : Lent) (ids' : List ℕ) (s : ListSays i m ids l m' ids') where
  -- an opening that is said to be accepted is
  accepted-is : l.outcome ≡ (Ok tt) → (w : Opening) → open_walk i (room_for i (lengths_of m)) ≡ w → (st : State) × (w ≡ opened st)
  accepted-is a (closed r) e = let q : ◌≡◌ {A = Result (Unit {0}) Refusal} (Err r) (Ok tt) = sym (ap (λ (x : Listing). x.outcome) (s.refused_open r e).0) ∙ a in let z : ◌≡◌ {A = ℕ} 0 1 = cc in absurd (omega arith)
  accepted-is a (opened st) e = (st, refl)

  any : (st : State) → open_walk i (room_for i (lengths_of m)) ≡ opened st → AnyListing i ids l ids'
  unfolding RefusedByCall
  any st e =
      let o = opens i (room_for i (lengths_of m)) (sym (ap checked_by e)) in
      let w = s.accepted_open st e in
      let f = none_first (all_answers i) in
      record {
        no_repeats = list-once i o.state o.opens_true;
        within = list-within i o.state o.opens_true;
        ended = ends-from i o.state o.opens_true;
        no_more = list_all i o.state o.opens_true;
        commits = w.commits;
        in_ids = reads_as (width_in i) (omega (arith, width_least i.settings.kind)) (whole_list i) ids ids' (list-wide i o.state o.opens_true) w.set_down;
        none-refused = (λ z. w.reason ∙ f.0 (sym w.refused ∙ z), λ z. w.refused ∙ f.1 (sym w.reason ∙ z));
        refused-by = λ r z.
            let k = first_of_lem (answer_at_call i) (P i + 2) r (sym (ap first_refusal (answers_at i (P i + 2))) ∙ sym w.reason ∙ z) in
            refused_by-call i o.state o.opens_true k.0 r k.1;
      }

  delivers : refusal i ≡ None → room_for i (lengths_of m) ≡ true → Premises (walk_of i) (list_ids (width_in i) i.tips) → Delivers i ids l ids'
  delivers e room pre =
      let q = listed-whole i e pre in
      let d = q.0 in
      let a = any d.state (ap (open_walk i) room ∙ d.accepted) in
      let w = s.accepted_open d.state (ap (open_walk i) room ∙ d.accepted) in
      let same : whole_list i ≡ d.list = q.1 in
      let h = hands_none (all_answers i) (d.handed_out (P i + 2)) in
      record {
        accepted = w.accepted;
        list = d.list;
        no_repeats = d.different;
        exactly = d.exactly;
        within = d.within;
        commits = w.commits ∙ ap (λ (x : List Id). length x) same;
        in_ids = subst (λ (x : List Id). ReadsAs (width_in i) x ids ids') same a.in_ids;
        none-refused = w.refused ∙ h.0;
        no-reason = w.reason ∙ h.1;
      }

pub list_demand : (i : Input) (m : Lent) (ids : List ℕ) → ListDemand i m ids
list_demand i m ids = record {
  demanded = λ l m' ids' s. delivers i m ids l m' ids' s;
  any_accepted = λ l m' ids' s a.
      let o = accepted-is i m ids l m' ids' s a (open_walk i (room_for i (lengths_of m))) refl in
      any i m ids l m' ids' s o.0 o.1;
}
