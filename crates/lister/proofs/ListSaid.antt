-- What `list` comes to: the driver's task Ids, which no refusal ends, so that all P + 2 calls are counted. Assumes nothing.
use Rattle.std.specs.Prelude.{Err}
use mathlib.Core.Path.{◌≡◌, refl, sym, ◌∙◌, ap, subst}
use Prim.Native.Nat.{ℕ, ◌+◌, ◌*◌, ◌-◌, ◌/◌}
use mathlib.Core.List.{List}
use native.Mathlib.Nat.{mul-zero}
use native.Mathlib.Omega.{arith}
use lib.ListN.{length, take}
use Rattle.hash.specs.Bytes.{set_down}
use Rattle.hash.proofs.Widths.{width_least}
use Rattle.walk.specs.declared.Refusal.{Refusal}
use Rattle.walk.specs.State.{State}
use Rattle.walk.specs.Opening.{Input, width_in, P, room_for, closed, opened, open_walk}
use Rattle.walk.specs.Calls.{answers}
use Rattle.walk.specs.Given.{joined}
use Rattle.opening.specs.Checks.{checked_by}
use Rattle.opening.proofs.Opened.{opens}
use Rattle.state.specs.Reads.{closed_record}
use Rattle.traverse.specs.Contract.{Lent, lengths_of}
use Rattle.driver.specs.declared.Driven.{Driven}
use Rattle.tally.specs.declared.Task.TheVariants.{Ids}
use Rattle.tally.specs.Tally.{Held, holding, no_tally, folded}
use Rattle.tally.specs.Terms.{good_part, zeros}
use Rattle.driver.specs.Walked.{whole_list}
use Rattle.driver.specs.Says.{driven, Made, Drives}
use Rattle.driver.proofs.Whole.{list-wide}
use Rattle.lister.specs.declared.Listing.{Listing}
use Rattle.lister.specs.Says.{listing, Whole, ListSays, listing_of}
use Rattle.lister.proofs.SetDown.{put_down-all}
use Rattle.lister.proofs.Ids.{Counts, counts_all}

module _ {i : Input} {m : Lent} {d : Driven} {l : Listing} {m' : Lent} {embargoed terms ids counts ids' counts' : List ℕ} (s : Drives Ids embargoed terms i m ids counts d m' ids' counts') (b : l ≡ listing_of d) where
  refused : (r : Refusal) → open_walk i (room_for i (lengths_of m)) ≡ closed r → (l ≡ listing (Err r) closed_record) × (m' ≡ m) × (ids' ≡ ids)
  refused r e = let u = s.refused_open r e in (b ∙ ap listing_of u.0, u.1, u.2)

  accepted : (st : State) → open_walk i (room_for i (lengths_of m)) ≡ opened st → Whole i m ids (listing_of d) m' ids'
  unfolding whole_list
  accepted st e =
      let v = s.accepted_open st e in
      let h : Held = holding no_tally ids (zeros (length counts)) in
      let a : Made Ids embargoed (good_part terms) i h m.parents (P i + 2) d m' ids' counts' =
      subst (λ (k : ℕ). Made Ids embargoed (good_part terms) i h m.parents k d m' ids' counts') (v.whole refl) v.made in
      let c : Counts (width_in i) ids (answers i (P i + 2)) (holding d.tally ids' counts') = subst (Counts (width_in i) ids (answers i (P i + 2))) (sym a.held) (counts_all i ids embargoed (good_part terms) (zeros (length counts)) (P i + 2)) in
      let w = opens i (room_for i (lengths_of m)) (sym (ap checked_by e)) in
      let y : width_in i * 0 ≡ 0 = mul-zero (width_in i) in
      let z : length ids / width_in i - 0 ≡ length ids / width_in i = omega arith in
      record {
        accepted = a.accepted;
        commits = c.commits;
        refused = c.refused;
        reason = c.reason;
        set_down =
            c.put-down
            ∙ put_down-all (width_in i) (omega (arith, width_least i.settings.kind)) ids 0 (whole_list i) (list-wide i w.state w.opens_true)
            ∙ ap (λ (x : ℕ). set_down ids x (joined (take (length ids / width_in i - 0) (whole_list i)))) y
            ∙ ap (λ (x : ℕ). set_down ids 0 (joined (take x (whole_list i)))) z;
        parents = a.parents;
        reads = a.reads;
      }

  pub list-says : ListSays i m ids l m' ids'
  list-says = record {
    refused_open = refused;
    accepted_open = λ st e. subst (λ (x : Listing). Whole i m ids x m' ids') (sym b) (accepted st e);
    same-lengths = s.same-lengths;
  }
