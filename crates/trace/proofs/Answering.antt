-- From the steps to the answer. Assumes nothing.
use Rattle.std.specs.Prelude.{Err, None, Ok, Option, Result, Some}
use mathlib.Core.Path.{◌≡◌, refl, sym, ◌∙◌, ap, subst}
use Prim.Native.Nat.{ℕ, suc, ◌-◌, ◌≤◌, ◌<◌}
use mathlib.Core.Bool.{Bool, true, false, cond}
use mathlib.Core.List.{List, []}
use native.Mathlib.Omega.{arith}
use lib.ListN.{length, get_or}
use lib.Dec.{ltb}
use borrow.Author.Tests.{lt-ltb, le-ltb, ltb-true, ltb-false}
use Rattle.hash.specs.Bytes.{Id, among}
use Rattle.hash.proofs.Tests.{by_cases}
use Rattle.object.specs.Header.{header}
use Rattle.object.specs.Ids.{id_in, id_room, padded}
use Rattle.object.specs.Read.{reading_of}
use Rattle.object.specs.declared.ObjectId.{ObjectId}
use Rattle.odb.specs.Store.{store_is_ok, standing_entries}
use Rattle.walk.specs.declared.Refusal.{Refusal}
use Rattle.walk.specs.declared.Refusal.TheVariants.{UnreadableReach}
use Rattle.walk.specs.Opening.{list_ids}
use Rattle.walk.specs.Reach.{links}
use Rattle.reading.specs.Body.{parent_id_at}
use Rattle.reading.specs.Stored.{GivesBody}
use Rattle.opening.specs.Checks.{checked_of}
use Rattle.memo.specs.Cells.{AllZero}
use Rattle.memo.specs.AtHand.{store_alone, parents_read, ParentsIn}
use Rattle.memo.proofs.Cells.{zero-holds}
use Rattle.withinreach.specs.Within.{readable_within}
use Rattle.withinreach.specs.Remembered.{Reads, all_read}
use Rattle.moves.specs.Game.{first_of, coneForces, bedForced}
use Rattle.moves.specs.Remembered.{played, FindsFirst}
use Rattle.moves.proofs.Turns.{forced-still, cone-turn, any-first, none_first}
use Rattle.moves.proofs.Judging.{body-parents}
use Rattle.trace.specs.declared.Prospect.{Prospect}
use Rattle.trace.specs.declared.Prospect.TheVariants.{NotForced, AtStart, Forced}
use Rattle.trace.specs.Call.{Traced, early_refusal, forced_by, first_forcing, trace_from, trace_within, or_refused, trace_of, TraceSays}
use Rattle.trace.specs.Steps.{ForcedBy, Plays, Answers}
use Rattle.trace.proofs.Checks.{passed-store}

-- ---- the parent that forces

module _ {width : ℕ} (small : width ≤ id_room) {s : List ℕ} {x y : Id} {b : List ℕ} {c : ℕ} (i : ℕ) (v : GivesBody width s y b) (e : c ≡ parents_read (reading_of (header width b))) (q : y ≡ x) where
  at-start : store_is_ok width s ≡ true → ParentsIn width s x b c
  at-start ok = subst (λ (z : Id). ParentsIn width s z b c) q (body-parents small v e ok)

  pub no-parent : {r : Prospect} → c ≤ i → r ≡ NotForced → ForcedBy width s x i r
  no-parent h z = record { right = λ ok. z ∙ sym (ap (λ (t : Bool). cond t (forced_by i (get_or (links (store_alone width s) x) i [])) NotForced) (le-ltb i _ (omega (arith, h, (at-start ok).count)))) }

  pub a-parent : {z w : ObjectId} {k : Id} → i < c → z.bytes ≡ parent_id_at width b i → k ≡ id_in width z.bytes → w.bytes ≡ padded k → ForcedBy width s x i (Forced i w)
  a-parent {z} {w} {k} h f g l = record {
    right = λ ok.
        let p = at-start ok in
        ap (λ (o : List ℕ). Forced i (record { bytes = o })) (l ∙ ap padded (g ∙ ap (id_in width) f ∙ p.each i h))
        ∙ sym (ap (λ (t : Bool). cond t (forced_by i (get_or (links (store_alone width s) x) i [])) NotForced) (lt-ltb i _ (omega (arith, h, p.count))));
  }

-- ---- the moves

module _ (width : ℕ) (s : List ℕ) (list : List Id) (d : ℕ) (x : Id) where
  pub play-start : {m : List ℕ} {r : Prospect} {t : Bool} → t ≡ among x list → t ≡ true → r ≡ AtStart → Plays width s list d x m r
  unfolding trace_from
  play-start e h z = record {
    right = λ ok o. z ∙ sym (ap (λ (t : Bool). cond t AtStart (cond (coneForces d (store_alone width s) list x) (forced_by (first_forcing (store_alone width s) list d x) (get_or (links (store_alone width s) x) (first_forcing (store_alone width s) list d x) [])) NotForced)) (sym e ∙ h));
  }

  module _ {t : Bool} (e : t ≡ among x list) (h : t ≡ false) where
    moved : trace_from (store_alone width s) list d x ≡ cond (coneForces d (store_alone width s) list x) (forced_by (first_forcing (store_alone width s) list d x) (get_or (links (store_alone width s) x) (first_forcing (store_alone width s) list d x) [])) NotForced
    unfolding trace_from
    moved = ap (λ (t : Bool). cond t AtStart (cond (coneForces d (store_alone width s) list x) (forced_by (first_forcing (store_alone width s) list d x) (get_or (links (store_alone width s) x) (first_forcing (store_alone width s) list d x) [])) NotForced)) (sym e ∙ h)

    pub play-still : {m : List ℕ} {r : Prospect} → d ≡ 0 → r ≡ NotForced → Plays width s list d x m r
    play-still k z = record {
      right = λ ok o. z ∙ sym (moved ∙ ap (λ (t : Bool). cond t (forced_by (first_forcing (store_alone width s) list d x) (get_or (links (store_alone width s) x) (first_forcing (store_alone width s) list d x) [])) NotForced)
          (forced-still (store_alone width s) list false d x k ∙ sym e ∙ h));
    }

    -- the cone forces it exactly where the first forcing parent is a parent
    some-parent : (d ≡ 0 → ⊥) → coneForces d (store_alone width s) list x ≡ ltb (first_forcing (store_alone width s) list d x) (length (links (store_alone width s) x))
    some-parent k =
        let q : d ≡ suc (d - 1) = omega (arith, k) in
        let f : Id → Bool = λ p. bedForced (d - 1) (store_alone width s) list p in
        ap (λ (n : ℕ). coneForces n (store_alone width s) list x) q ∙ cone-turn (store_alone width s) list x (sym e ∙ h) (d - 1)
        ∙ by_cases (ltb (first_of f (links (store_alone width s) x)) (length (links (store_alone width s) x)))
        (λ u. any-first f (links (store_alone width s) x) (ltb-true _ _ u) ∙ sym u) (λ u. none_first f (links (store_alone width s) x) (ltb-false _ _ u) ∙ sym u)

    pub play-moved : {m m' : List ℕ} {i : ℕ} {r : Prospect} → (d ≡ 0 → ⊥) → FindsFirst width s list (d - 1) x m m' i → ForcedBy width s x i r → Plays width s list d x m r
    play-moved {i = i} {r} k v w = record {
      right = λ ok o.
          let z = (v.right ok o).0 in
          let u : r ≡ cond (ltb (first_forcing (store_alone width s) list d x) (length (links (store_alone width s) x))) (forced_by (first_forcing (store_alone width s) list d x) (get_or (links (store_alone width s) x) (first_forcing (store_alone width s) list d x) [])) NotForced =
          w.right ok ∙ ap (λ (j : ℕ). cond (ltb j (length (links (store_alone width s) x))) (forced_by j (get_or (links (store_alone width s) x) j [])) NotForced) z in
          u ∙ sym (moved ∙ ap (λ (t : Bool). cond t (forced_by (first_forcing (store_alone width s) list d x) (get_or (links (store_alone width s) x) (first_forcing (store_alone width s) list d x) [])) NotForced) (some-parent k));
    }

-- ---- 13 and the answer

module _ {width : ℕ} {s : List ℕ} {d : ℕ} {x : Id} {m m' : List ℕ} {t : Bool} (z : AllZero m) (v : Reads width s d x m m' t) where
  read-so : store_is_ok width s ≡ true → t ≡ readable_within d (store_alone width s) x
  read-so ok = (v.right ok (zero-holds (all_read width s) (standing_entries width s) z)).0

  pub answer-unreadable : {r : Traced} (list : List Id) → t ≡ false → r ≡ Err UnreadableReach → Answers width s list d x r
  unfolding trace_within
  answer-unreadable list h e = record { right = λ ok. e ∙ sym (ap (λ (b : Bool). cond b (Ok (trace_from (store_alone width s) list d x)) (Err UnreadableReach)) (sym (read-so ok) ∙ h)) }

  pub answer-played : {n : List ℕ} {r : Prospect} (list : List Id) → t ≡ true → AllZero n → Plays width s list d x n r → Answers width s list d x (Ok r)
  unfolding trace_within
  answer-played list h y p = record {
    right = λ ok. ap Ok (p.right ok (zero-holds (played width s list) (standing_entries width s) y)) ∙ sym (ap (λ (b : Bool). cond b (Ok (trace_from (store_alone width s) list d x)) (Err UnreadableReach)) (sym (read-so ok) ∙ h));
  }

-- ---- the call

fine_refused {ℓ} : {X : Type ℓ} {r : Refusal} → ◌≡◌ {A = Result (Unit {0}) Refusal} (Ok tt) (Err r) → X
fine_refused e = cc

fine_none : (o : Option Refusal) → checked_of o ≡ (Ok tt) → o ≡ None
fine_none None e = refl
fine_none (Some n) e = fine_refused (sym e)

refused-some : (o : Option Refusal) (n : Refusal) → checked_of o ≡ Err n → o ≡ Some n
refused-some None n e = fine_refused e
refused-some (Some k) n e = let z : k ≡ n = cc in ap Some z

module _ (width : ℕ) (store list : List ℕ) (d : ℕ) (x : Id) (m : List ℕ) {q : Result (Unit {0}) Refusal} (f : q ≡ checked_of (early_refusal width store list d)) where
  pub call-refused : {r : Traced} (n : Refusal) → q ≡ Err n → r ≡ Err n → TraceSays width store list d x m m r
  unfolding trace_of
  call-refused n e z = record {
    answer = z ∙ sym (ap (λ (o : Option Refusal). or_refused o (trace_within (store_alone width store) (list_ids width list) d x)) (refused-some (early_refusal width store list d) n (sym f ∙ e)));
    early = λ k h. refl;
  }

  pub call-answers : {m' : List ℕ} {r : Traced} → q ≡ (Ok tt) → Answers width store (list_ids width list) d x r → TraceSays width store list d x m m' r
  unfolding trace_of
  call-answers e v =
      let o : early_refusal width store list d ≡ None = fine_none (early_refusal width store list d) (sym f ∙ e) in
      record {
        answer = v.right (passed-store width store list d o) ∙ sym (ap (λ (p : Option Refusal). or_refused p (trace_within (store_alone width store) (list_ids width list) d x)) o);
        early = λ k h. fine_refused (ap checked_of (sym o ∙ h));
      }
