-- The tips of an opening: where an opening is accepted, its state is that of letting in each lent tip in turn. For a repeat is seen already, an
-- excluded tip is passed over, and a tip that cannot be read would have refused the opening. And one tip let in, in lent memory.
-- Assumes nothing.
use Rattle.std.specs.Prelude.{None, Option, Some}
use mathlib.Core.Path.{◌≡◌, refl, sym, ◌∙◌, ap, subst}
use mathlib.Core.Logic.{⊎_elim}
use Prim.Native.Nat.{ℕ, suc, ◌≤◌, ◌<◌}
use mathlib.Core.Bool.{Bool, true, false, cond, ◌||◌}
use mathlib.Core.List.{List, [], ◌∷◌, Memᴰ}
use native.Mathlib.Omega.{arith}
use lib.ListN.{length}
use lib.IntN.{ℤ}
use Rattle.hash.specs.Bytes.{Id, width_of, eq_id, among, if_some}
use Rattle.hash.proofs.Tests.{by_cases, clash}
use Rattle.date.specs.declared.Seconds.{Seconds}
use Rattle.object.specs.Header.{Header}
use Rattle.object.specs.Read.{seconds_read}
use Rattle.odb.specs.Store.{store_is_ok}
use Rattle.walk.specs.declared.Refusal.{Refusal}
use Rattle.walk.specs.declared.Refusal.TheVariants.{TipNotFound, TipUnreadable}
use Rattle.walk.specs.declared.Sorting.{Sorting}
use Rattle.walk.specs.Settings.{timed, cutoff_of, not_before}
use Rattle.walk.specs.Lookup.{World, world_of}
use Rattle.walk.specs.State.{Walk, State, add, sees, waits}
use Rattle.walk.specs.Opening.{list_ids, distinct, closed, opened, tips_in}
use Rattle.walk.proofs.Laws.{add-cases}
use Rattle.reading.specs.Tip.{tip_of, tip_seconds}
use Rattle.state.specs.declared.Record.{Record}
use Rattle.state.specs.Reads.{Memory, Shape, Reads}
use Rattle.state.specs.declared.Fixed.{Fixed}
use Rattle.state.specs.Shapes.{joins, shape_for}
use Rattle.state.specs.Steps.{mem, SeesTo, Sees, Waits, Entered}
use Rattle.state.proofs.Shapes.{waits-shape}
use Rattle.traverse.specs.Open.{read_as, admission_of, in_as, tip_in, tips_all, Early, SameLengths, Admits, TakesTip}

-- ---- the walk's own opening, tip by tip

module _ (w : Walk) (st : State) (x : Id) where
  pub in-skipped : among x w.excluded ≡ true → tip_in w st x ≡ st
  unfolding tip_in
  in-skipped e = rw e

  pub in-seen : among x w.excluded ≡ false → st.seen x ≡ true → tip_in w st x ≡ st
  unfolding tip_in
  in-seen e s = rw (e, s)

  pub in-new : among x w.excluded ≡ false → st.seen x ≡ false → tip_in w st x ≡ in_as w st x (admission_of w.world w.settings.sorting x)
  unfolding tip_in
  in-new e s = rw (e, s)

  -- a tip that is left: an accepted opening goes on from the state with it let in
  pub goes_on : (xs : List Id) (z : State) → tips_in w (x ∷ xs) st ≡ opened z → tips_in w xs (in_as w st x (admission_of w.world w.settings.sorting x)) ≡ opened z
  unfolding tips_in admission_of
  goes_on xs z = by_cases (timed w.settings.sorting)
      (λ t. rw t (store (w.world.store x)))
      (λ t. rw t (λ e. e))
    where
      none-opens : {r : Refusal} {A : Type 0} → closed r ≡ opened z → A
      none-opens e = let y : ◌≡◌ {A = ℕ} 0 1 = cc in absurd (omega arith)

      cut : (t : ℤ) (b : Bool) → cond b (tips_in w xs (waits w st x t)) (tips_in w xs (sees st x)) ≡ opened z
          → tips_in w xs (in_as w st x (cond b (Some (record { 0 = t })) None)) ≡ opened z
      cut t true e = e
      cut t false e = e

      seconds : (o : Option ℤ)
          → if_some o (closed TipUnreadable) (λ t. cond (not_before (cutoff_of w.settings.sorting) t) (tips_in w xs (waits w st x t)) (tips_in w xs (sees st x))) ≡ opened z
          → tips_in w xs (in_as w st x (read_as w.settings.sorting (tip_seconds (seconds_read o)))) ≡ opened z
      seconds None e = none-opens e
      seconds (Some t) e = cut t (not_before (cutoff_of w.settings.sorting) t) e

      store : (o : Option Header)
          → if_some o (closed TipNotFound) (λ h. if_some h.seconds (closed TipUnreadable) (λ t. cond (not_before (cutoff_of w.settings.sorting) t) (tips_in w xs (waits w st x t)) (tips_in w xs (sees st x)))) ≡ opened z
          → tips_in w xs (in_as w st x (read_as w.settings.sorting (tip_of o))) ≡ opened z
      store None e = none-opens e
      store (Some h) e = seconds h.seconds e

  seen_as : (a : Option Seconds) → (in_as w st x a).seen ≡ add st.seen x
  unfolding sees waits
  seen_as (Some t) = refl
  seen_as None = refl

among-add : (x y : Id) (had : List Id) (f : Id → Bool) → among y had ≡ f y → among y (x ∷ had) ≡ add f x y
unfolding among add
among-add x y had f e = ap (cond (eq_id y x) true) e

opened_in : {a b : State} → opened a ≡ opened b → a ≡ b
opened_in e = cc

none_left : (w : Walk) {st z : State} → tips_in w [] st ≡ opened z → st ≡ z
unfolding tips_in
none_left w e = opened_in e

pub tips-all : (w : Walk) (had xs : List Id) (st z : State) → ((y : Id) → among y had ≡ st.seen y) → tips_in w (distinct had w.excluded xs) st ≡ opened z → tips_all w xs st ≡ z
unfolding distinct tips_all
tips-all w had [] st z g e = none_left w e
tips-all w had (x ∷ xs) st z g e =
    by_cases (among x w.excluded)
    (λ p. rw (in-skipped w st x p) (tips-all w had xs st z g (passed (or_yes p) e)))
    (λ p. by_cases (among x had)
    (λ q. rw (in-seen w st x p (sym (g x) ∙ q)) (tips-all w had xs st z g (passed (rw q) e)))
    (λ q. rw (in-new w st x p (sym (g x) ∙ q)) (tips-all w (x ∷ had) xs _ z
    (λ y. among-add x y had st.seen (g y) ∙ ap (λ (f : Id → Bool). f y) (sym (seen_as w st x (admission_of w.world w.settings.sorting x))))
    (goes_on w st x (distinct (x ∷ had) w.excluded xs) z (rw (q, p) at e)))))
  where
    or_yes : among x w.excluded ≡ true → (among x had || among x w.excluded) ≡ true
    or_yes p = go (among x had) p
      where
        go : (b : Bool) → among x w.excluded ≡ true → (b || among x w.excluded) ≡ true
        go true p' = refl
        go false p' = p'

    passed : (among x had || among x w.excluded) ≡ true
        → tips_in w (cond (among x had || among x w.excluded) (distinct had w.excluded xs) (x ∷ distinct (x ∷ had) w.excluded xs)) st ≡ opened z
        → tips_in w (distinct had w.excluded xs) st ≡ opened z
    passed h e' = rw h at e'

-- ---- one tip in lent memory

same-lengths : (m : Memory) → SameLengths m m
same-lengths m = record { names = refl; marks = refl; times = refl; line = refl }

module _ {sh : Shape} {u : List Id} {k : ℕ} {r : Record} {m : Memory} {st : State} (g : Early sh u k r m st) where
  pub early-on : Early sh u (suc k) r m st
  early-on = record { reads = g.reads; unfailed = g.unfailed; few = omega (arith, g.few); universe = g.universe; unpainted = g.unpainted }

  more-seen : (x : Id) → Memᴰ x u → (y : Id) → add st.seen x y ≡ true → Memᴰ y u
  more-seen x h y e = ⊎_elim (λ q. rw q h) (g.universe.has-seen y) (add-cases st.seen x y e)

  -- the tip x has come in: it is seen, in a memory and with a record that read so
  pub early-sees : (x : Id) → Memᴰ x u → {m' : Memory} → Reads r m' sh (sees st x) → Early sh u (suc k) r m' (sees st x)
  unfolding sees
  early-sees x h v = record {
    reads = v;
    unfailed = g.unfailed;
    few = omega (arith, g.few);
    universe = record { few = g.universe.few; has-seen = more-seen x h; has-frontier = g.universe.has-frontier };
    unpainted = g.unpainted;
  }

  pub early-waits : (w : Walk) (x : Id) (t : ℤ) → Memᴰ x u → {m' : Memory} {r' : Record} → r'.failed ≡ r.failed → Reads r' m' sh (waits w st x t) → Early sh u (suc k) r' m' (waits w st x t)
  unfolding waits
  early-waits w x t h f v = record {
    reads = v;
    unfailed = f ∙ g.unfailed;
    few = omega (arith, g.few);
    universe = record { few = g.universe.few; has-seen = more-seen x h; has-frontier = g.universe.has-frontier };
    unpainted = g.unpainted;
  }

-- an excluded tip
pub tip_skipped : {width : ℕ} {store excluded : List ℕ} {o : Sorting} (m : Memory) (x : Id) (r : Record) → among x (list_ids width excluded) ≡ true → TakesTip width store excluded o m m x r r
tip_skipped {width} {excluded = excluded} m x r e = record {
  long = same-lengths m;
  taken = λ w n f k u st wd ok v l h a b g.
      subst (λ (s : State). Early (shape_for w.settings n f) u (suc k) r m s) (sym (in-skipped w st x (ap (among x) v.2 ∙ e))) (early-on g);
}

-- another tip, with what see told and how it comes in
module _ (width : ℕ) (store excluded : List ℕ) (o : Sorting) {names marks names' marks' : List ℕ} {times times' : List ℤ} {line line' : List ℕ} {x : Id} {r r' : Record} {a : Option ℕ} {how : Option Seconds}
    (e : among x (list_ids width excluded) ≡ false) (s : Sees r names marks names' marks' x a)
    (d : store_is_ok width store ≡ true → (graph : List ℕ) → how ≡ admission_of (world_of width store graph) o x) (j : Admits r times times' line line' a how r') where
  -- a repeat
  again : (w : Walk) (sh : Shape) (k : ℕ) (u : List Id) (st : State) → Early sh u k r (mem names marks times line) st → st.seen x ≡ true
      → Early sh u (suc k) r' (mem names' marks' times' line') st
  again w sh k u st g h = go a refl s.told
    where
      go : (b : Option ℕ) → a ≡ b → SeesTo r names marks names' marks' x b → Early sh u (suc k) r' (mem names' marks' times' line') st
      go None i o =
          let p = o.still in
          let q = j.repeat i in
          rw (p.0, p.1, q.same_record, q.same-times, q.same_line) (early-on g)
      go (Some slot) i o = absurd (o.old times line sh st g.reads (rw (g.unpainted x, h)))

  -- a new one
  comes : (w : Walk) (n : ℕ) (f : Fixed) (k : ℕ) (u : List Id) (st : State) → length x ≡ width_of f.kind → Memᴰ x u → n ≤ 1048576 → k < 1048576
      → Early (shape_for w.settings n f) u k r (mem names marks times line) st → st.seen x ≡ false → (b : Option Seconds) → how ≡ b
      → Early (shape_for w.settings n f) u (suc k) r' (mem names' marks' times' line') (in_as w st x b)
  comes w n f k u st l h c i g z b y = met a refl s.told
    where
      go : (slot : ℕ) → a ≡ Some slot → (b' : Option Seconds) → how ≡ b' → Entered r (mem names' marks' times line) (shape_for w.settings n f) st x slot
          → Early (shape_for w.settings n f) u (suc k) r' (mem names' marks' times' line') (in_as w st x b')
      go slot e' (Some t) y' v =
          let q = j.joins slot e' t.0 y' in
          early-waits g w x t.0 h q.failed
          (subst (Reads r' (mem names' marks' times' line') (shape_for w.settings n f)) (sym (waits-shape w n f st x t.0))
          (q.joined names' marks' (shape_for w.settings n f) (sees st x) x v.reads g.unfailed v.slot (omega (arith, c)) (omega (arith, i, g.few, g.reads.admitted))))
      go slot e' None y' v =
          let q = j.turned y' in
          rw (q.same_record, q.same-times, q.same_line) (early-sees g x h v.reads)

      met : (d : Option ℕ) → a ≡ d → SeesTo r names marks names' marks' x d → Early (shape_for w.settings n f) u (suc k) r' (mem names' marks' times' line') (in_as w st x b)
      met (Some slot) e' o = go slot e' b y (o.new times line (shape_for w.settings n f) st g.reads g.unfailed l (rw (g.unpainted x, z)) u g.universe h)
      met None e' o = absurd (o.new times line (shape_for w.settings n f) st g.reads g.unfailed l (rw (g.unpainted x, z)) u g.universe h)

  pub tip-taken : TakesTip width store excluded o (mem names marks times line) (mem names' marks' times' line') x r r'
  tip-taken = record {
    long = record { names = s.long-names; marks = s.long-marks; times = j.long-times; line = j.long-line };
    taken = λ w n f k u st wd ok v l h c i g.
        let p : among x w.excluded ≡ false = ap (among x) v.2 ∙ e in
        let y : how ≡ admission_of w.world w.settings.sorting x = d ok v.0 ∙ ap (λ (q : World). admission_of q o x) (sym v.1) ∙ ap (λ (q : Sorting). admission_of w.world q x) (sym v.3) in
        by_cases (st.seen x)
        (λ z. subst (λ (q : State). Early (shape_for w.settings n f) u (suc k) r' (mem names' marks' times' line') q) (sym (in-seen w st x p z)) (again w (shape_for w.settings n f) k u st g z))
        (λ z. subst (λ (q : State). Early (shape_for w.settings n f) u (suc k) r' (mem names' marks' times' line') q) (sym (in-new w st x p z)) (comes w n f k u st (l ∙ sym wd) h c i g z (admission_of w.world w.settings.sorting x) y));
  }

-- ---- a tip waits or does not

module _ (r : Record) (times : List ℤ) (line : List ℕ) (a : Option ℕ) (how : Option Seconds) where
  pub admit-again : a ≡ None → Admits r times times line line a how r
  admit-again f = record {
    long-times = refl;
    long-line = refl;
    repeat = λ e. record { same_record = refl; same-times = refl; same_line = refl };
    turned = λ e. record { same_record = refl; same-times = refl; same_line = refl };
    joins = λ slot e t y. let q = sym f ∙ e in cc;
  }

  pub admit-turned : how ≡ None → Admits r times times line line a how r
  admit-turned f = record {
    long-times = refl;
    long-line = refl;
    repeat = λ e. record { same_record = refl; same-times = refl; same_line = refl };
    turned = λ e. record { same_record = refl; same-times = refl; same_line = refl };
    joins = λ slot e t y. let q : Some (record { 0 = t }) ≡ None = sym y ∙ f in let z : ◌≡◌ {A = ℕ} 0 1 = cc in absurd (omega arith);
  }

  pub admit-waits : {times' : List ℤ} {line' : List ℕ} {r' : Record} {slot : ℕ} (s : Seconds) → a ≡ Some slot → how ≡ Some s → Waits r times times' line line' slot s.0 r'
      → Admits r times times' line line' a how r'
  admit-waits {times'} {line'} {r'} {slot} s f h w = record {
    long-times = w.long-times;
    long-line = w.for_line.long;
    repeat = λ e. let q = sym f ∙ e in cc;
    turned = λ e. let q : Some s ≡ None = sym h ∙ e in let z : ◌≡◌ {A = ℕ} 0 1 = cc in absurd (omega arith);
    joins = λ k e t y.
        let q : Some s ≡ Some (record { 0 = t }) = sym h ∙ y in
        let z : ◌≡◌ {A = Seconds} s (record { 0 = t }) = cc in
        let i : slot ≡ k = let j = sym f ∙ e in cc in
        subst (λ (v : ℤ). Waits r times times' line line' k v r') (ap (λ (v : Seconds). v.0) z) (subst (λ (i : ℕ). Waits r times times' line line' i s.0 r') i w);
  }
