-- A link to a parent is the walk's own visit: a known parent changes nothing, a new one is seen in a slot of its own, and waits where its link is admitted.
-- The ids stay in the universe, since the parent is in it, and at most one commit more is admitted. Assumes nothing.
use Rattle.std.specs.Prelude.{Option, Some, None}
use mathlib.Core.Path.{◌≡◌, refl, sym, ap, ◌∙◌, subst}
use mathlib.Core.Logic.{⊎_elim}
use Prim.Native.Nat.{ℕ, suc}
use mathlib.Core.Bool.{Bool, true, false, cond, not, ◌&&◌, ◌||◌}
use mathlib.Core.List.{List, Memᴰ}
use native.Mathlib.Omega.{arith}
use lib.ListN.{length, get_or}
use lib.IntN.{ℤ, pos}
use Rattle.hash.specs.Bytes.{Id, among, width_of}
use Rattle.hash.proofs.Tests.{by_cases, clash}
use Rattle.walk.specs.declared.Settings.{Settings}
use Rattle.walk.specs.declared.Sorting.{Sorting}
use Rattle.walk.specs.declared.Sorting.TheVariants.{BreadthFirst, ByCommitTime, ByCommitTimeCutoff}
use Rattle.walk.specs.Settings.{timed, only_first, by_time, cutoff_of, not_before}
use Rattle.walk.specs.State.{Walk, State, sees, waits, enter}
use Rattle.walk.specs.Opening.{list_ids}
use Rattle.walk.specs.Next.{admits, visit}
use Rattle.walk.proofs.Laws.{add-cases}
use Rattle.state.specs.declared.Record.{Record}
use Rattle.state.specs.Reads.{Shape, Reads, Universe, memory_width}
use Rattle.state.specs.Shapes.{before_of, shape_for, joins}
use Rattle.state.specs.Steps.{mem, Sees, Waits}
use Rattle.state.proofs.Shapes.{waits-shape}
use Rattle.links.specs.Link.{GoesBy, Ready, Went, Admits, Enters, Visits}

-- ---- tests

-- ---- the walk's visit, case by case

module _ (v : Walk) (st : State) (x : Id) (t : ℤ) where
  pub visit-old : (st.frontier x || st.seen x) ≡ true → visit v st x t ≡ st
  unfolding visit
  visit-old e = ap (λ (b : Bool). cond b st (cond (admits v x t) (waits v st x t) (sees st x))) e

  visit-new : (b : Bool) → (st.frontier x || st.seen x) ≡ false → admits v x t ≡ b → visit v st x t ≡ cond b (waits v st x t) (sees st x)
  unfolding visit
  visit-new b e a =
      ap (λ (c : Bool). cond c st (cond (admits v x t) (waits v st x t) (sees st x))) e
      ∙ ap (λ (c : Bool). cond c (waits v st x t) (sees st x)) a

  sees-inside : {sh : Shape} {u : List Id} → Memᴰ x u → Universe sh st u → Universe sh (sees st x) u
  unfolding sees
  sees-inside i d = record { few = d.few; has-seen = λ y k. ⊎_elim (λ e. rw e i) (d.has-seen y) (add-cases st.seen x y k); has-frontier = d.has-frontier }

  waits-inside : {sh : Shape} {u : List Id} → Memᴰ x u → Universe sh st u → Universe sh (waits v st x t) u
  unfolding waits
  waits-inside i d = record { few = d.few; has-seen = λ y k. ⊎_elim (λ e. rw e i) (d.has-seen y) (add-cases st.seen x y k); has-frontier = d.has-frontier }

  waits-count : (waits v st x t).admitted ≡ suc st.admitted
  unfolding waits
  waits-count = refl

  sees-count : (sees st x).admitted ≡ st.admitted
  unfolding sees
  sees-count = refl

-- ---- whether a link is admitted

at-settings : (excluded : List ℕ) (settings : Settings) (x : Id) (t : ℤ) (v : Walk) → v.settings ≡ settings → v.excluded ≡ list_ids (width_of settings.kind) excluded
    → (not (among x (list_ids (width_of settings.kind) excluded)) && (only_first settings || not_before (cutoff_of settings.sorting) t)) ≡ admits v x t
unfolding admits
at-settings excluded settings x t v p q =
    ap (λ (l : List Id). not (among x l) && (only_first settings || not_before (cutoff_of settings.sorting) t)) (sym q)
    ∙ ap (λ (s : Settings). not (among x v.excluded) && (only_first s || not_before (cutoff_of s.sorting) t)) (sym p)

module _ {excluded : List ℕ} {settings : Settings} {x : Id} {t : ℤ} where
  pub not-admitted : {b : Bool} → b ≡ among x (list_ids (width_of settings.kind) excluded) → b ≡ true → Admits excluded settings x t false
  not-admitted e k = record { right = λ v p q. rw (sym e ∙ k) at (at-settings excluded settings x t v p q) }

  pub first-admitted : {b c : Bool} → b ≡ among x (list_ids (width_of settings.kind) excluded) → b ≡ false → c ≡ only_first settings → c ≡ true → Admits excluded settings x t true
  first-admitted e k f l = record { right = λ v p q. rw (sym e ∙ k, sym f ∙ l) at (at-settings excluded settings x t v p q) }

  pub timed-admitted : {b c d : Bool} → b ≡ among x (list_ids (width_of settings.kind) excluded) → b ≡ false → c ≡ only_first settings → c ≡ false → d ≡ not_before (cutoff_of settings.sorting) t
      → Admits excluded settings x t d
  timed-admitted e k f l m = record { right = λ v p q. m ∙ (rw (sym e ∙ k, sym f ∙ l) at (at-settings excluded settings x t v p q)) }

-- ---- where commits do not wait by time, the seconds of a parent do not count

-- breadth order has no cutoff, and First minds none
never-before : (o : Sorting) (first : Bool) (t t' : ℤ) → (timed o && not first) ≡ false → (first || not_before (cutoff_of o) t) ≡ (first || not_before (cutoff_of o) t')
unfolding timed cutoff_of not_before
never-before o true t t' e = refl
never-before BreadthFirst false t t' e = refl
never-before (ByCommitTime p) false t t' e = refl
never-before (ByCommitTimeCutoff p c) false t t' e = clash refl e

module _ (v : Walk) (st : State) (x : Id) (t t' : ℤ) (e : by_time v.settings ≡ false) where
  admits-same : admits v x t ≡ admits v x t'
  unfolding admits by_time
  admits-same = ap (λ (b : Bool). not (among x v.excluded) && b) (never-before v.settings.sorting (only_first v.settings) t t' e)

  waits-same : waits v st x t ≡ waits v st x t'
  unfolding waits enter
  waits-same = rw e refl

  pub visit-timeless : visit v st x t ≡ visit v st x t'
  unfolding visit
  visit-timeless =
      ap (λ (b : Bool). cond (st.frontier x || st.seen x) st (cond b (waits v st x t) (sees st x))) admits-same
      ∙ ap (λ (q : State). cond (st.frontier x || st.seen x) st (cond (admits v x t') q (sees st x))) waits-same

-- ---- a parent enters

module _ {excluded : List ℕ} {settings : Settings} {r : Record} {times : List ℤ} {line : List ℕ} {x : Id} {t : ℤ} {slot : ℕ} where
  pub enters-turned : {b : Bool} → Admits excluded settings x t b → b ≡ false → Enters excluded settings r times times line line x t slot r
  enters-turned d e = record { turned = λ v p q n. (refl, refl, refl); admitted = λ v p q n. clash n (sym (d.right v p q) ∙ e) }

  pub enters-admitted : {b : Bool} {times' : List ℤ} {line' : List ℕ} {r' : Record} → Admits excluded settings x t b → b ≡ true → Waits r times times' line line' slot t r'
      → Enters excluded settings r times times' line line' x t slot r'
  enters-admitted d e w = record { turned = λ v p q n. clash (sym (d.right v p q) ∙ e) n; admitted = λ v p q n. w }

-- ---- a visit

same-state : {r r' : Record} {names marks names' marks' : List ℕ} {times times' : List ℤ} {line line' : List ℕ} {sh : Shape} {st : State}
    → Reads r (mem names marks times line) sh st → names' ≡ names → marks' ≡ marks → times' ≡ times → line' ≡ line → r' ≡ r
    → Reads r' (mem names' marks' times' line') sh st
same-state g p q h l e = rw (p, q, h, l, e) g

joins-waits : {v : Walk} {sh : Shape} {excluded : List ℕ} {settings : Settings} → GoesBy v sh excluded settings → (st : State) (x : Id) (t : ℤ)
    → joins (before_of sh) (sees st x) x (cond sh.timed t (pos 0)) ≡ waits v st x t
joins-waits {v} {sh} {excluded} {settings} by st x t =
    ap (λ (q : Shape). joins (before_of q) (sees st x) x (cond q.timed t (pos 0))) (by.shape ∙ ap (λ (q : Settings). shape_for q sh.cap sh.fixed) (sym by.same-settings))
    ∙ sym (waits-shape v sh.cap sh.fixed st x t)

module _ (excluded : List ℕ) (settings : Settings) (r r' : Record) (names marks names' marks' : List ℕ) (times times' : List ℤ) (line line' : List ℕ) (x : Id) where
  module _ (v : Walk) (sh : Shape) (st : State) (u : List Id) (n : ℕ) (by : GoesBy v sh excluded settings) (d : Ready sh r (mem names marks times line) st u (suc n))
      (w : length x ≡ width_of settings.kind) (i : Memᴰ x u) where
    -- the memory holds ids of that kind
    held-wide : length x ≡ memory_width sh
    held-wide = w ∙ sym (ap width_of by.same_kind)

    abbrev Goal : State → Type 0
    Goal st' = Went sh (mem names marks times line) r' (mem names' marks' times' line') st' u n

    -- nothing is changed but what is seen
    still : (st' : State) → Reads r' (mem names' marks' times' line') sh st' → r' ≡ r → line' ≡ line → Universe sh st' u → st'.admitted ≡ st.admitted → Goal st'
    still st' g e l j c = record {
      ready = record { reads = g; failed = ap (λ (q : Record). q.failed) e ∙ d.failed; inside = j; slots = d.slots; numbers = omega (arith, d.numbers, c) };
      line_kept = λ k h. ap (λ (q : List ℕ). get_or q k 0) l;
    }

    -- a known parent changes nothing
    went-known : Sees r names marks names' marks' x None → times' ≡ times → line' ≡ line → r' ≡ r → (t : ℤ) → Goal (visit v st x t)
    went-known s p q h t =
        by_cases (st.frontier x || st.seen x)
        (λ k. subst Goal (sym (visit-old v st x t k)) (let o = s.told.still in still st (same-state d.reads o.0 o.1 p q h) h q d.inside refl))
        (λ k. absurd (s.told.new times line sh st d.reads d.failed held-wide k u d.inside i))

    went-turned : {t : ℤ} {slot : ℕ} → Sees r names marks names' marks' x (Some slot) → Enters excluded settings r times times' line line' x t slot r' → (st.frontier x || st.seen x) ≡ false → admits v x t ≡ false → Goal (sees st x)
    went-turned s e k n =
        let o = s.told.new times line sh st d.reads d.failed held-wide k u d.inside i in
        let p = e.turned v by.same-settings by.same-excluded n in
        let g : Reads r' (mem names' marks' times' line') sh (sees st x) = rw (p.0, p.1, p.2) o.reads in
        still (sees st x) g p.2 p.1 (sees-inside v st x (pos 0) i d.inside) (sees-count v st x (pos 0))

    went-admitted : {t : ℤ} {slot : ℕ} → Sees r names marks names' marks' x (Some slot) → Enters excluded settings r times times' line line' x t slot r' → (st.frontier x || st.seen x) ≡ false → admits v x t ≡ true → Goal (waits v st x t)
    went-admitted {t} s e k n =
        let o = s.told.new times line sh st d.reads d.failed held-wide k u d.inside i in
        let p = e.admitted v by.same-settings by.same-excluded n in
        let g = p.joined names' marks' sh (sees st x) x o.reads d.failed o.slot d.slots (omega (arith, d.numbers, d.reads.admitted)) in
        record {
          ready = record {
            reads = subst (Reads r' (mem names' marks' times' line') sh) (joins-waits by st x t) g;
            failed = p.failed ∙ d.failed;
            inside = waits-inside v st x t i d.inside;
            slots = d.slots;
            numbers = omega (arith, d.numbers, waits-count v st x t);
          };
          line_kept = λ j h. p.for_line.kept j (omega (arith, h, d.reads.cap));
        }

    not-timed : r.queue.timed ≡ false → by_time v.settings ≡ false
    not-timed j = ap by_time by.same-settings ∙ sym (ap (λ (q : Shape). q.timed) by.shape) ∙ sym d.reads.timed ∙ j

    went : {slot : ℕ} → Sees r names marks names' marks' x (Some slot) → (t : ℤ) → Enters excluded settings r times times' line line' x t slot r' → Goal (visit v st x t)
    went s t e =
        by_cases (st.frontier x || st.seen x)
        (λ k. absurd (s.told.old times line sh st d.reads k))
        (λ k. by_cases (admits v x t)
        (λ n. subst Goal (sym (visit-new v st x t true k n)) (went-admitted s e k n))
        (λ n. subst Goal (sym (visit-new v st x t false k n)) (went-turned s e k n)))

    -- seconds do not count where commits do not wait by time
    went-with : {slot : ℕ} → Sees r names marks names' marks' x (Some slot) → (t t' : ℤ) → (r.queue.timed ≡ true → t ≡ t') → Enters excluded settings r times times' line line' x t slot r' → Goal (visit v st x t')
    went-with s t t' q e =
        by_cases r.queue.timed
        (λ j. subst (λ (z : ℤ). Goal (visit v st x z)) (q j) (went s t e))
        (λ j. subst Goal (visit-timeless v st x t t' (not-timed j)) (went s t e))

-- what is seen by a record is seen by the same record
pub sees_as : {r r' : Record} {names marks names' marks' : List ℕ} {x : Id} {a : Option ℕ} → r ≡ r' → Sees r names marks names' marks' x a → Sees r' names marks names' marks' x a
sees_as {names = names} {marks = marks} {names' = names'} {marks' = marks'} {x = x} {a = a} e s = subst (λ (z : Record). Sees z names marks names' marks' x a) e s

-- where the seconds t of a new parent are t', in a queue by time
pub visits : {excluded : List ℕ} {settings : Settings} {r r' : Record} {names marks names' marks' : List ℕ} {times times' : List ℤ} {line line' : List ℕ} {x : Id} {slot : ℕ}
    → Sees r names marks names' marks' x (Some slot) → (t t' : ℤ) → (r.queue.timed ≡ true → t ≡ t') → Enters excluded settings r times times' line line' x t slot r'
    → Visits excluded settings r (mem names marks times line) (mem names' marks' times' line') x t' r'
visits {excluded} {settings} {r} {r'} {names} {marks} {names'} {marks'} {times} {times'} {line} {line'} {x} s t t' q e = record {
  right = λ v sh st u n by d w i. went-with excluded settings r r' names marks names' marks' times times' line line' x v sh st u n by d w i s t t' q e;
}

-- a known parent, whatever its seconds
pub visits-known : {excluded : List ℕ} {settings : Settings} {r : Record} {names marks names' marks' : List ℕ} {times : List ℤ} {line : List ℕ} {x : Id}
    → Sees r names marks names' marks' x None → (t : ℤ) → Visits excluded settings r (mem names marks times line) (mem names' marks' times line) x t r
visits-known {excluded} {settings} {r} {names} {marks} {names'} {marks'} {times} {line} {x} s t = record {
  right = λ v sh st u n by d w i. went-known excluded settings r r names marks names' marks' times times line line x v sh st u n by d w i s refl refl refl t;
}
