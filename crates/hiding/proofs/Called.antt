-- What calls and `list` hand out is what the opening leaves: by the third demand they hand out its runs, each once, and a call that says end comes
-- after all of them; so the three sentences hold of them. Assumes nothing.
use Rattle.opentested.proofs.Listing.{as-opened, tested-premises}
use mathlib.Core.Path.{◌≡◌, sym, ◌∙◌, ap, subst}
use mathlib.Core.Logic.{⊎_elim, ◌⊎◌, inl, inr}
use Prim.Native.Nat.{ℕ, zero, suc, ◌+◌, ◌*◌, ◌≤◌, ◌<◌}
use mathlib.Core.List.{List, [], ◌∷◌}
use native.Mathlib.Omega.{arith}
use lib.ListN.{length}
use lib.Dec.{ltb}
use borrow.Author.Tests.{ltb-true, ltb-false}
use Rattle.hash.specs.Bytes.{Id, ids_of}
use Rattle.hash.proofs.Tests.{by_cases}
use Rattle.walk.specs.declared.Outcome.TheVariants.{Commit, End}
use Rattle.walk.specs.Opening.{Input, P, width_in}
use Rattle.traverse.specs.Demand.{Call, CallIs, here, after, answers_of, handed_out, Lists, Delivered}
use Rattle.traverse.proofs.ThirdDemand.{third_demand}
use Rattle.lister.specs.Demand.{ReadsAs, Delivers}
use Rattle.lister.proofs.Demanded.{list_demand}
use Rattle.hiding.specs.Hiding.{Tested, Leaves, AddsUp}
use Rattle.hiding.specs.Called.{OfTested, Walked, ComesToItsEnd, ids_handed, SetDown, ids_set_down, HidingAddsUp}
use Rattle.hiding.proofs.Adding.{adds_up}

-- ---- calls

call_below : {A : Type 0} (cs : List A) (k : ℕ) (c : A) → CallIs cs k c → k < length cs
call_below [] k d x = elim x [ ]
call_below (c ∷ cs) zero d here = omega arith
call_below (c ∷ cs) (suc k) d (after p) = omega (arith, call_below cs k d p)

call_at : {A : Type 0} (cs : List A) (k : ℕ) → k < length cs → (c : A) × CallIs cs k c
call_at [] k h = absurd (omega arith)
call_at (c ∷ cs) zero h = (c, here)
call_at (c ∷ cs) (suc k) h = let r = call_at cs k (omega arith) in (r.0, after r.1)

pub comes_to_its_end : (i : Input) → ComesToItsEnd i
unfolding ComesToItsEnd
comes_to_its_end i m o m' s a cs q l =
    let c = call_at cs (P i + 1) (omega arith) in
    (P i + 1, c.0, c.1, ((third_demand i m).accepted-calls o m' s a cs q).end_by (P i + 1) c.0 c.1 (omega arith))

commit_not_end : Commit ≡ End → ⊥
commit_not_end e = let z : ◌≡◌ {A = ℕ} 0 1 = cc in absurd (omega arith)

-- where a call says end, as many calls were made as there are runs
all-handed : (i : Input) (l : List Id) (cs : List Call) → Lists i l cs → (k : ℕ) (c : Call) → CallIs cs k c → c.out.answer.outcome ≡ End → length l ≤ length cs
all-handed i l cs s k c p e = by_cases (ltb k (length l))
    (λ b. absurd (commit_not_end (sym (s.first_n k c p (ltb-true k (length l) b)).0 ∙ e)))
    (λ b. omega (arith, ltb-false k (length l) b, call_below cs k c p))

pub walked_leaves : (i : Input) → Tested i → (d : Walked i) → Leaves i (ids_handed i d)
walked_leaves i t d =
    let g = (third_demand i d.lent).demanded d.opened d.left d.opens t.fits d.room t.premises in
    let s = g.every-list d.calls d.called in
    let e = s.n_calls (all-handed i g.list d.calls s d.number d.last d.among_them d.says-end) in
    subst (Leaves i) (sym e) (record { once = g.no_repeats; exactly = g.exactly })

-- ---- list

pub set_leaves : (i : Input) → Tested i → (d : SetDown i) → Leaves i (ids_set_down i d)
set_leaves i t d =
    let g = (list_demand i d.lent d.ids).demanded d.listing d.left d.ids-left d.lists t.fits d.room t.premises in
    let r : width_in i * length g.list ≤ length d.ids = subst (λ (n : ℕ). width_in i * n ≤ length d.ids) g.commits d.room_for-ids in
    let e : ids_set_down i d ≡ g.list = ap (λ (n : ℕ). ids_of (width_in i) n d.ids-left) g.commits ∙ g.in_ids.whole r in
    subst (Leaves i) (sym e) (record { once = g.no_repeats; exactly = g.exactly })

pub hiding-adds_up : (i : Input) → HidingAddsUp i
hiding-adds_up i = record { of_calls = adds_up Walked ids_handed walked_leaves i; of_list = adds_up SetDown ids_set_down set_leaves i }

pub of_tested : (i : Input) → OfTested i
unfolding OfTested
of_tested i m o m' s e = (record { fits = (tested-premises s e).0; premises = (tested-premises s e).2 }, as-opened s e, (tested-premises s e).1)
