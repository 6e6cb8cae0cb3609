-- Card 1: a tested opening has one verdict, and where it passes the third demand holds with no premise on the history.
-- Assumes nothing.
use Rattle.std.specs.Prelude.{None, Option, Some}
use mathlib.Core.Path.{◌≡◌, refl, sym, ◌∙◌, ap, subst}
use mathlib.Core.Logic.{⊎_elim}
use Prim.Native.Nat.{ℕ, ◌<◌}
use mathlib.Core.Bool.{Bool, true, false, not, ◌&&◌}
use mathlib.Core.List.Memᴰ
use mathlib.Core.List.{List, [], ◌∷◌, ◌++◌, map}
use native.Mathlib.Omega.{arith}
use lib.IntN.{ℤ, pos, negsuc}
use lib.ListN.{length, get_or}
use lib.Signed.{lt_z}
use lib.Dec.{ltb}
use borrow.Author.Tests.{ltb-false, le-ltb, not-true}
use Rattle.hash.specs.Bytes.{Id, eq_id}
use Rattle.hash.proofs.Tests.{by_cases, clash, not_yes, and_of, and_first, and_second, guard_test, guarded, guard_of, some_in}
use Rattle.hash.proofs.Ids.{eq_id_eq, eq_id-same}
use Rattle.walk.specs.declared.Refusal.TheVariants.{UnreadableReach, GraphAtOdds, PairNotFalling}
use Rattle.walk.specs.Lookup.{World, Row, no_row, corrupt, row, Pair, lt_pair, Read, fail, good, from_store, store_seconds}
use Rattle.walk.specs.State.{Walk}
use Rattle.walk.specs.Opening.{Input, walk_of, list_ids, refusal, width_in}
use Rattle.walk.specs.Reach.{Mem, links}
use Rattle.walk.specs.Demand.{Readable, Agrees, Region, pair_at, Premises, Delivers, Third}
use Rattle.walk.proofs.Whole.{third}
use Rattle.reading.proofs.IdLists.{mem-at}
use Rattle.reach.specs.Search.{ReachedBy, Reached, reach_list}
use Rattle.reach.specs.Tested.{each, is_good, readable_in, same_ids, same_time, same_seconds, row_agrees, agrees_in, falls_in, judged, tested_over, tested_refusal, RegionReadable, RegionAgrees, RegionFalls, Verdict, passes, unreadable, at-odds, not-falling, verdict_number, verdict_refusal, TestsDecide}
use Rattle.reach.proofs.Growth.{place_of}
use Rattle.reach.proofs.Closure.{list-reached}

-- "accepts exactly when": an opening has one verdict
pub one_verdict : {v : Walk} {tips : List Id} (a b : Verdict v tips) → verdict_number a ≡ verdict_number b
one_verdict (passes a b c) (passes d e f) = refl
one_verdict (passes a b c) (unreadable d) = absurd (d a)
one_verdict (passes a b c) (at-odds d e) = absurd (e b)
one_verdict (passes a b c) (not-falling d e f) = absurd (f c)
one_verdict (unreadable a) (passes d e f) = absurd (a d)
one_verdict (unreadable a) (unreadable d) = refl
one_verdict (unreadable a) (at-odds d e) = absurd (a d)
one_verdict (unreadable a) (not-falling d e f) = absurd (a d)
one_verdict (at-odds a b) (passes d e f) = absurd (b e)
one_verdict (at-odds a b) (unreadable d) = absurd (d a)
one_verdict (at-odds a b) (at-odds d e) = refl
one_verdict (at-odds a b) (not-falling d e f) = absurd (b e)
one_verdict (not-falling a b c) (passes d e f) = absurd (c f)
one_verdict (not-falling a b c) (unreadable d) = absurd (d a)
one_verdict (not-falling a b c) (at-odds d e) = absurd (e b)
one_verdict (not-falling a b c) (not-falling d e f) = refl

-- what passes is what the third demand supposes
pub passed-premises : {v : Walk} {tips : List Id} (r : Verdict v tips) → verdict_number r ≡ 0 → Premises v tips
unfolding RegionReadable RegionAgrees RegionFalls
passed-premises (passes a b c) e = record { readable = a; agrees = b; falls = c }
passed-premises (unreadable a) e = absurd (omega arith)
passed-premises (at-odds a b) e = absurd (omega arith)
passed-premises (not-falling a b c) e = absurd (omega arith)

-- and the other way round
pub premises-passed : {v : Walk} {tips : List Id} → Premises v tips → (r : Verdict v tips) → verdict_number r ≡ 0
unfolding RegionReadable RegionAgrees RegionFalls
premises-passed p r = one_verdict r (passes p.readable p.agrees p.falls)

-- "After a tested opening the listing holds with only one premise left"
pub tested_delivers : (i : Input) → refusal i ≡ None → (r : Verdict (walk_of i) (list_ids (width_in i) i.tips)) → verdict_number r ≡ 0 → Delivers i
unfolding Third
tested_delivers i e r p = third i e (passed-premises r p)

-- ---- the region is what one search finds

module _ (v : Walk) (tips : List Id) where
  pub region-reached : (x : Id) → Region v tips x → ReachedBy v.world (tips ++ v.hidden) x
  unfolding Region
  region-reached x r = record { root = r.0; lent = ⊎_elim (λ m. Memᴰ.append_left v.hidden m) (λ m. Memᴰ.append_right tips m) r.1; reaches = r.2 }

  pub reached-region : (x : Id) → ReachedBy v.world (tips ++ v.hidden) x → Region v tips x
  unfolding Region
  reached-region x r = (r.root, Memᴰ.append_cases tips r.lent, r.reaches)

-- ---- the tests decide

-- of each id of a list
pub each-mem : (f : Id → Bool) (l : List Id) → each f l ≡ true → (x : Id) → Mem x l → f x ≡ true
unfolding each
each-mem f [] e x m = absurd (Memᴰ.not-nil m)
each-mem f (y ∷ l) e x m = ⊎_elim (λ q. ap f q ∙ guard_test (f y) (each f l) e) (λ k. each-mem f l (guarded (f y) (each f l) e) x k) (Memᴰ.cases_cons m)

pub each_all : (f : Id → Bool) (l : List Id) → ((x : Id) → Mem x l → f x ≡ true) → each f l ≡ true
unfolding each
each_all f [] h = refl
each_all f (y ∷ l) h = guard_of (f y) (each f l) (h y (Memᴰ.head refl)) (each_all f l (λ x m. h x (Memᴰ.tail m)))

-- by places
pub each-places : (f : Id → Bool) (l : List Id) → ((i : ℕ) → i < length l → f (get_or l i []) ≡ true) → each f l ≡ true
each-places f l h = each_all f l (λ x m. let o = place_of x l m in ap f (sym o.2) ∙ h o.0 o.1)

pub each_broken : (f : Id → Bool) (l : List Id) (i : ℕ) → i < length l → f (get_or l i []) ≡ false → each f l ≡ false
each_broken f l i h e = not_yes (λ a. clash (each-mem f l a (get_or l i []) (mem-at l i h)) e)

-- a test that decides a property of each id
pub record Settles (f : Id → Bool) (Q : Id → Type 0) : Type 0 where
  pub holds : (x : Id) → f x ≡ true → Q x
  pub passes_it : (x : Id) → Q x → f x ≡ true

-- readable
good-is : (r : Read) → is_good r ≡ true → (ps : List Id) × (p : Pair) × (r ≡ good ps p)
unfolding is_good
good-is (fail n) e = clash e refl
good-is (good ps p) e = (ps, p, refl)

is-good : (r : Read) (ps : List Id) (p : Pair) → r ≡ good ps p → is_good r ≡ true
unfolding is_good
is-good r ps p e = ap is_good e

pub readable-settled : (w : World) → Settles (readable_in w) (Readable w)
unfolding readable_in Readable
readable-settled w = record { holds = λ x e. good-is (from_store (w.store x)) e; passes_it = λ x h. is-good (from_store (w.store x)) h.0 h.1 h.2 }

-- agrees
pub same_ids_eq : (a b : List Id) → same_ids a b ≡ true → a ≡ b
unfolding same_ids
same_ids_eq [] [] e = refl
same_ids_eq [] (y ∷ b) e = clash e refl
same_ids_eq (x ∷ a) [] e = clash e refl
same_ids_eq (x ∷ a) (y ∷ b) e = λ k. eq_id_eq x y (guard_test (eq_id x y) (same_ids a b) e) k ∷ same_ids_eq a b (guarded (eq_id x y) (same_ids a b) e) k

same_ids_refl : (a : List Id) → same_ids a a ≡ true
unfolding same_ids
same_ids_refl [] = refl
same_ids_refl (x ∷ a) = guard_of (eq_id x x) (same_ids a a) (eq_id-same x x refl) (same_ids_refl a)

pub same-ids_of : (a b : List Id) → a ≡ b → same_ids a b ≡ true
same-ids_of a b e = subst (λ (c : List Id). same_ids a c ≡ true) e (same_ids_refl a)

-- a test that cannot fail passes
yes : (b : Bool) → (b ≡ false → ⊥) → b ≡ true
yes b h = by_cases b (λ e. e) (λ e. absurd (h e))

same_nat : (a b : ℕ) → ltb a b ≡ false → ltb b a ≡ false → a ≡ b
same_nat a b e f = omega (arith, ltb-false a b e, ltb-false b a f)

same_int : (a b : ℤ) → lt_z a b ≡ false → lt_z b a ≡ false → a ≡ b
same_int (pos a) (pos b) e f = ap pos (same_nat a b e f)
same_int (pos a) (negsuc b) e f = clash refl f
same_int (negsuc a) (pos b) e f = clash refl e
same_int (negsuc a) (negsuc b) e f = ap negsuc (same_nat a b f e)

pub same_time_eq : (a b : ℤ) → same_time a b ≡ true → a ≡ b
unfolding same_time
same_time_eq a b e = same_int a b (not-true (lt_z a b) (and_first (not (lt_z a b)) (not (lt_z b a)) e)) (not-true (lt_z b a) (and_second (not (lt_z a b)) (not (lt_z b a)) e))

not_less : (n : ℕ) → ltb n n ≡ false
not_less n = le-ltb n n (omega arith)

not-before : (a : ℤ) → lt_z a a ≡ false
not-before (pos a) = not_less a
not-before (negsuc a) = not_less a

pub same_time_of : (a b : ℤ) → a ≡ b → same_time a b ≡ true
unfolding same_time
same_time_of a b e = subst (λ (c : ℤ). (not (lt_z a c) && not (lt_z c a)) ≡ true) e (and_of (ap not (not-before a)) (ap not (not-before a)))

same_some : (o : Option ℤ) (s : ℤ) → same_seconds o s ≡ true → o ≡ Some s
unfolding same_seconds
same_some None s e = clash e refl
same_some (Some t) s e = ap Some (same_time_eq t s e)

some_same : (o : Option ℤ) (s : ℤ) → o ≡ Some s → same_seconds o s ≡ true
unfolding same_seconds
some_same None s e = let z : ◌≡◌ {A = ℕ} 0 1 = cc in absurd (omega arith)
some_same (Some t) s e = same_time_of t s (some_in e)

row-agrees : (w : World) (x : Id) (r : Row) → w.graph x ≡ r → row_agrees r (links w x) (store_seconds w x) ≡ true → Agrees w x
unfolding row_agrees
row-agrees w x no_row e t = record {
  whole = λ q. let k : no_row ≡ corrupt = sym e ∙ q in let z : ◌≡◌ {A = ℕ} 0 1 = cc in absurd (omega arith);
  same-parents = λ ps l s q. let k : no_row ≡ row ps l s = sym e ∙ q in let z : ◌≡◌ {A = ℕ} 0 1 = cc in absurd (omega arith);
  same-seconds = λ ps l s q. let k : no_row ≡ row ps l s = sym e ∙ q in let z : ◌≡◌ {A = ℕ} 0 1 = cc in absurd (omega arith);
}
row-agrees w x corrupt e t = clash t refl
row-agrees w x (row ps l s) e t =
    let ids = same_ids_eq (map (λ p. p.0) ps) (links w x) (and_first (same_ids (map (λ p. p.0) ps) (links w x)) (same_seconds (store_seconds w x) s) t) in
    let time = same_some (store_seconds w x) s (and_second (same_ids (map (λ p. p.0) ps) (links w x)) (same_seconds (store_seconds w x) s) t) in
    record {
      whole = λ q. let k : row ps l s ≡ corrupt = sym e ∙ q in let z : ◌≡◌ {A = ℕ} 0 1 = cc in absurd (omega arith);
      same-parents = λ ps' l' s' q. let k : row ps l s ≡ row ps' l' s' = sym e ∙ q in let j : ps ≡ ps' = cc in subst (λ (a : List (Id × ℤ)). map (λ p. p.0) a ≡ links w x) j ids;
      same-seconds = λ ps' l' s' q. let k : row ps l s ≡ row ps' l' s' = sym e ∙ q in let j : s ≡ s' = cc in subst (λ (a : ℤ). store_seconds w x ≡ Some a) j time;
    }

agrees-row : (w : World) (x : Id) (r : Row) → w.graph x ≡ r → Agrees w x → row_agrees r (links w x) (store_seconds w x) ≡ true
unfolding row_agrees
agrees-row w x no_row e a = refl
agrees-row w x corrupt e a = absurd (a.whole e)
agrees-row w x (row ps l s) e a = and_of (same-ids_of (map (λ p. p.0) ps) (links w x) (a.same-parents ps l s e)) (some_same (store_seconds w x) s (a.same-seconds ps l s e))

pub agrees-settled : (w : World) → Settles (agrees_in w) (Agrees w)
unfolding agrees_in
agrees-settled w = record { holds = λ x e. row-agrees w x (w.graph x) refl e; passes_it = λ x a. agrees-row w x (w.graph x) refl a }

-- falls
abbrev FallsFrom : World → Id → Type 0
FallsFrom w x = (p : Id) → Mem p (links w x) → lt_pair (pair_at w p) (pair_at w x) ≡ true

falls-settled : (w : World) → Settles (falls_in w) (FallsFrom w)
unfolding falls_in
falls-settled w = record {
  holds = λ x e. each-mem (λ p. lt_pair (pair_at w p) (pair_at w x)) (links w x) e;
  passes_it = λ x h. each_all (λ p. lt_pair (pair_at w p) (pair_at w x)) (links w x) h;
}

-- ---- and every opening has a verdict

all_pass : {f : Id → Bool} {Q : Id → Type 0} (l : List Id) → Settles f Q → each f l ≡ true → (x : Id) → Mem x l → Q x
all_pass {f} l s e x m = s.holds x (each-mem f l e x m)

one_fails : {f : Id → Bool} {Q : Id → Type 0} (l : List Id) → Settles f Q → each f l ≡ false → ((x : Id) → Mem x l → Q x) → ⊥
one_fails {f} l s e h = clash (each_all f l (λ x m. s.passes_it x (h x m))) e

-- the list of a search decides the three tests in their order
module _ (v : Walk) (tips l : List Id) (c : Reached v.world (tips ++ v.hidden) l) where
  in_list : (x : Id) → Region v tips x → Mem x l
  in_list x r = c.complete x (region-reached v tips x r)

  in-region : (x : Id) → Mem x l → Region v tips x
  in-region x m = reached-region v tips x (c.sound x m)

  abbrev w : World
  w = v.world

  all-readable : each (readable_in w) l ≡ true → RegionReadable v tips
  unfolding RegionReadable
  all-readable e x r = all_pass l (readable-settled w) e x (in_list x r)

  not-readable : each (readable_in w) l ≡ false → RegionReadable v tips → ⊥
  unfolding RegionReadable
  not-readable e h = one_fails l (readable-settled w) e (λ x m. h x (in-region x m))

  all-agree : each (agrees_in w) l ≡ true → RegionAgrees v tips
  unfolding RegionAgrees
  all-agree e x r = all_pass l (agrees-settled w) e x (in_list x r)

  not-agreeing : each (agrees_in w) l ≡ false → RegionAgrees v tips → ⊥
  unfolding RegionAgrees
  not-agreeing e h = one_fails l (agrees-settled w) e (λ x m. h x (in-region x m))

  all-fall : each (falls_in w) l ≡ true → RegionFalls v tips
  unfolding RegionFalls
  all-fall e x p r m = all_pass l (falls-settled w) e x (in_list x r) p m

  not-all-fall : each (falls_in w) l ≡ false → RegionFalls v tips → ⊥
  unfolding RegionFalls
  not-all-fall e h = one_fails l (falls-settled w) e (λ x m p k. h x p (in-region x m) k)

  pub verdict-of : Verdict v tips
  verdict-of = by_cases (each (readable_in w) l)
      (λ a. by_cases (each (agrees_in w) l)
      (λ b. by_cases (each (falls_in w) l) (λ f. passes (all-readable a) (all-agree b) (all-fall f)) (λ f. not-falling (all-readable a) (all-agree b) (not-all-fall f)))
      (λ b. at-odds (all-readable a) (not-agreeing b)))
      (λ a. unreadable (not-readable a))

  -- any verdict is the one that is computed from the list
  pub verdict-computed : (r : Verdict v tips) → tested_over w l ≡ verdict_refusal r
  unfolding tested_over judged
  verdict-computed (passes a b f) = rw (yes (each (readable_in w) l) (λ e. not-readable e a), yes (each (agrees_in w) l) (λ e. not-agreeing e b), yes (each (falls_in w) l) (λ e. not-all-fall e f))
  verdict-computed (unreadable a) = rw (not_yes (λ e. a (all-readable e)))
  verdict-computed (at-odds a b) = rw (yes (each (readable_in w) l) (λ e. not-readable e a), not_yes (λ e. b (all-agree e)))
  verdict-computed (not-falling a b f) = rw (yes (each (readable_in w) l) (λ e. not-readable e a), yes (each (agrees_in w) l) (λ e. not-agreeing e b), not_yes (λ e. f (all-fall e)))

pub verdict : (i : Input) → Verdict (walk_of i) (list_ids (width_in i) i.tips)
unfolding walk_of
verdict i = verdict-of (walk_of i) (list_ids (width_in i) i.tips) (reach_list (width_in i) i.store i.graph (list_ids (width_in i) i.tips ++ list_ids (width_in i) i.hidden)) (list-reached (width_in i) i.store i.graph (list_ids (width_in i) i.tips ++ list_ids (width_in i) i.hidden))

-- ---- an equation with the definition

pub tested_is : (i : Input) (r : Verdict (walk_of i) (list_ids (width_in i) i.tips)) → tested_refusal i ≡ verdict_refusal r
unfolding tested_refusal walk_of
tested_is i r =
    verdict-computed (walk_of i) (list_ids (width_in i) i.tips) (reach_list (width_in i) i.store i.graph (list_ids (width_in i) i.tips ++ list_ids (width_in i) i.hidden)) (list-reached (width_in i) i.store i.graph (list_ids (width_in i) i.tips ++ list_ids (width_in i) i.hidden)) r

module _ (v : Walk) (tips : List Id) where
  -- what a verdict's refusal says
  refusal-none : (r : Verdict v tips) → verdict_refusal r ≡ None → Premises v tips
  unfolding RegionReadable RegionAgrees RegionFalls
  refusal-none (passes a b c) e = record { readable = a; agrees = b; falls = c }
  refusal-none (unreadable a) e = let z : ◌≡◌ {A = ℕ} 0 1 = cc in absurd (omega arith)
  refusal-none (at-odds a b) e = let z : ◌≡◌ {A = ℕ} 0 1 = cc in absurd (omega arith)
  refusal-none (not-falling a b c) e = let z : ◌≡◌ {A = ℕ} 0 1 = cc in absurd (omega arith)

  refusal-13 : (r : Verdict v tips) → verdict_refusal r ≡ Some UnreadableReach → RegionReadable v tips → ⊥
  refusal-13 (passes a b c) e = let z : ◌≡◌ {A = ℕ} 0 1 = cc in absurd (omega arith)
  refusal-13 (unreadable a) e = a
  refusal-13 (at-odds a b) e = let z : ◌≡◌ {A = ℕ} 0 1 = cc in absurd (omega arith)
  refusal-13 (not-falling a b c) e = let z : ◌≡◌ {A = ℕ} 0 1 = cc in absurd (omega arith)

  refusal-14 : (r : Verdict v tips) → verdict_refusal r ≡ Some GraphAtOdds → RegionReadable v tips × (RegionAgrees v tips → ⊥)
  refusal-14 (passes a b c) e = let z : ◌≡◌ {A = ℕ} 0 1 = cc in absurd (omega arith)
  refusal-14 (unreadable a) e = let z : ◌≡◌ {A = ℕ} 0 1 = cc in absurd (omega arith)
  refusal-14 (at-odds a b) e = (a, b)
  refusal-14 (not-falling a b c) e = let z : ◌≡◌ {A = ℕ} 0 1 = cc in absurd (omega arith)

  refusal-15 : (r : Verdict v tips) → verdict_refusal r ≡ Some PairNotFalling → RegionReadable v tips × RegionAgrees v tips × (RegionFalls v tips → ⊥)
  refusal-15 (passes a b c) e = let z : ◌≡◌ {A = ℕ} 0 1 = cc in absurd (omega arith)
  refusal-15 (unreadable a) e = let z : ◌≡◌ {A = ℕ} 0 1 = cc in absurd (omega arith)
  refusal-15 (at-odds a b) e = let z : ◌≡◌ {A = ℕ} 0 1 = cc in absurd (omega arith)
  refusal-15 (not-falling a b c) e = (a, b, c)

pub tests_decide : (i : Input) → TestsDecide i
unfolding RegionReadable RegionAgrees RegionFalls
tests_decide i =
    let v = walk_of i in
    let tips = list_ids (width_in i) i.tips in
    let r = verdict i in
    let is : tested_refusal i ≡ verdict_refusal r = tested_is i r in
    record {
      accepted = (λ e. refusal-none v tips r (sym is ∙ e), λ p. tested_is i (passes p.readable p.agrees p.falls));
      thirteen = (λ e. refusal-13 v tips r (sym is ∙ e), λ a. tested_is i (unreadable a));
      fourteen = (λ e. refusal-14 v tips r (sym is ∙ e), λ a. tested_is i (at-odds a.0 a.1));
      fifteen = (λ e. refusal-15 v tips r (sym is ∙ e), λ a. tested_is i (not-falling a.0 a.1 a.2));
    }
