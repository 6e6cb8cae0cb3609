-- Two openings that differ in their hidden tips alone, where one hides nothing: the same tips wait after them, and their lists are the same save for
-- what is hidden. Assumes nothing.
use mathlib.Core.Path.{◌≡◌, refl, sym, ◌∙◌, ap, subst}
use Prim.Native.Nat.{ℕ, ◌+◌, ◌*◌, ◌≤◌}
use mathlib.Core.Bool.{Bool, true, false, cond, not}
use mathlib.Core.List.{List, [], ◌∷◌}
use lib.ListN.{length}
use lib.IntN.{pos}
use Rattle.hash.specs.Bytes.{Id, if_some}
use Rattle.hash.proofs.Tests.{by_cases, clash, not_yes}
use Rattle.walk.specs.declared.Settings.{Settings}
use Rattle.walk.specs.declared.Refusal.TheVariants.{TipNotFound, TipUnreadable}
use Rattle.walk.specs.Settings.{timed, not_before, cutoff_of, goes_before}
use Rattle.walk.specs.Lookup.{World}
use Rattle.walk.specs.State.{Walk, State, enter, nobody, empty_state, sees, waits}
use Rattle.walk.specs.Opening.{distinct, closed, opened, tips_in}
use Rattle.walk.specs.Next.{outside, painted_with}
use Rattle.walk.specs.Calls.{calls}
use Rattle.walk.specs.Reach.{Mem, links}
use Rattle.walk.specs.Demand.{Region, Premises, Hidden, Hands}
use Rattle.walk.proofs.Laws.{Coherent}
use Rattle.walk.proofs.Queue.{tip}
use Rattle.walk.proofs.Outside.{outside-nobody}
use Rattle.walk.proofs.Third.{hidden-on}
use Rattle.hiding.proofs.Sets.{walk}
use Rattle.hidingorder.specs.Order.{those}
use Rattle.hidingorder.proofs.Those.{same_test}
use Rattle.hidingorder.proofs.Ordered.{Ordered, outside-same}
use Rattle.hidingorder.proofs.Alike.{Alike, same-order}
use Rattle.hidingorder.proofs.Begun.{Begun, begins, tips_ordered}

module _ (w : World) (s : Settings) (e h k : List Id) (fa fb : ℕ) where
  abbrev pub wa : Walk
  wa = walk w s e h fa

  abbrev pub wb : Walk
  wb = walk w s e k fb

  -- tips enter alike, whatever is hidden
  pub tips-same : (xs : List Id) (st : State) → tips_in wa xs st ≡ tips_in wb xs st
  unfolding tips_in waits enter
  tips-same [] st = refl
  tips-same (x ∷ xs) st = λ j.
      cond (timed s.sorting)
      (if_some (w.store x) (closed TipNotFound) λ a.
      if_some a.seconds (closed TipUnreadable) λ t.
      cond (not_before (cutoff_of s.sorting) t) (tips-same xs (waits wa st x t) j) (tips-same xs (sees st x) j))
      (tips-same xs (waits wa st x (pos 0)) j)

  module _ (tips : List Id) (pre-a : Premises wa tips) (pre-b : Premises wb tips) (co : Coherent w)
      (hid : Id → Bool) (hid-of : (x : Id) → hid x ≡ true → Hidden wa tips x) (of-hid : (x : Id) → Hidden wa tips x → hid x ≡ true)
      (nothing : (x : Id) → Hidden wb tips x → ⊥) (st : State) where
    -- the two states after the first call's painting
    first_alike : (p : Begun wa tips pre-a co st) (q : Begun wb tips pre-b co st) → tips_in wb (distinct [] e tips) empty_state ≡ opened st
        → Alike w s e tips h k fa fb hid (painted_with st (outside p.front st.queue) p.front) (painted_with st (outside q.front st.queue) q.front)
    unfolding painted_with
    first_alike p q o =
        let none : (x : Id) → q.front x ≡ false = λ x. not_yes (λ u. nothing x (q.hidden-only x u)) in
        let all : outside q.front st.queue ≡ st.queue = outside-same q.front nobody st.queue (λ x m. none x) ∙ outside-nobody st.queue in
        let parts : outside p.front st.queue ≡ outside hid st.queue = outside-same p.front hid st.queue (λ x m. same_test (p.front x) (hid x)
        (λ u. of-hid x (p.hidden-only x u))
        (λ u. by_cases (p.front x) (λ n. n) (λ n. absurd (p.apart x (tip (p.of-tips x m) n) (hid-of x u))))) in
        record {
          queue-is = parts ∙ ap (outside hid) (sym all);
          seen-is = λ x n. refl;
          no_front = none;
          ordered = subst (Ordered (goes_before s)) (sym all) (tips_ordered wb (distinct [] e tips) st o);
        }

    pub same_lists : (us : List Id)
        → ((x p : Id) → Region wa tips x → Mem p (links w x) → Mem p us) → 3 * length us + length tips + length h ≤ fa
        → ((x p : Id) → Region wb tips x → Mem p (links w x) → Mem p us) → 3 * length us + length tips + length k ≤ fb
        → tips_in wa (distinct [] e tips) empty_state ≡ opened st
        → (la lb : List Id) → ((n : ℕ) → Hands la (calls wa n st)) → ((n : ℕ) → Hands lb (calls wb n st)) → la ≡ those (λ x. not (hid x)) lb
    same_lists us in-a enough-a in_b enough-b o la lb f g =
        let o₂ : tips_in wb (distinct [] e tips) empty_state ≡ opened st = sym (tips-same (distinct [] e tips) empty_state) ∙ o in
        let p = begins wa tips pre-a co us in-a enough-a st o in
        let q = begins wb tips pre-b co us in_b enough-b st o₂ in
        same-order w s e tips h k fa fb hid p.front
        (λ x a. not_yes (λ u. p.apart x a (hid-of x u)))
        (λ x n. not_yes (λ u. clash (of-hid x (p.hidden-only x u)) n))
        pre-a pre-b co
        (λ x y u m. of-hid y (hidden-on wa tips pre-a co x y (hid-of x u) m))
        q.front lb
        (painted_with st (outside p.front st.queue) p.front) (painted_with st (outside q.front st.queue) q.front) la [] []
        (first_alike p q o₂) (p.goes_on la f) (q.goes_on lb g)
