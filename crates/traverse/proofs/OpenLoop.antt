-- All tips of an opening in lent memory: after k turns the memory reads as the state with the first k tips let in, and letting in the others leads where
-- letting in all leads. Assumes nothing.
use mathlib.Core.Path.{◌≡◌, refl, sym, ◌∙◌, ap, subst}
use Prim.Native.Nat.{ℕ, suc, ◌+◌, ◌*◌, ◌/◌, ◌≤◌, ◌<◌}
use mathlib.Core.Bool.{true}
use mathlib.Core.List.{List, [], ◌∷◌, Memᴰ}
use native.Mathlib.Omega.{arith}
use native.Mathlib.Nat.{mul-div-le}
use lib.ListN.{length}
use Rattle.hash.proofs.Widths.{apart}
use Rattle.hash.specs.Bytes.{Id, width_of, at}
use Rattle.hash.proofs.Bytes.{length_at}
use Rattle.odb.specs.Store.{store_is_ok}
use Rattle.walk.specs.declared.Sorting.{Sorting}
use Rattle.walk.specs.State.{Walk, State}
use Rattle.walk.specs.Opening.{list_ids}
use Rattle.walk.proofs.Whole.{length_list}
use Rattle.opening.proofs.Ids.{ids_from, ids-start, ids_next, ids-end}
use Rattle.state.specs.declared.Record.{Record}
use Rattle.state.specs.Reads.{Memory}
use Rattle.state.specs.declared.Fixed.{Fixed}
use Rattle.state.specs.Shapes.{shape_for}
use Rattle.traverse.specs.Open.{tip_in, tips_all, Early, SameLengths, Over, TakesTip, TakesTips}

-- k of n tips have come in, over m now and over m₀ at first
pub record Turns (width : ℕ) (store tips excluded : List ℕ) (o : Sorting) (m₀ : Memory) (r₀ : Record) (n : ℕ) (m : Memory) (r : Record) (k : ℕ) : Type 0 where
  pub low : k ≤ n
  pub count : n ≡ length tips / width
  pub long : SameLengths m₀ m
  pub inside : (y : Id) → Memᴰ y (ids_from width n k tips) → Memᴰ y (list_ids width tips)
  pub taken : (w : Walk) (c : ℕ) (d : Fixed) (st : State) → width_of d.kind ≡ width → store_is_ok width store ≡ true → Over width store excluded o w → c ≤ 1048576 → Early (shape_for w.settings c d) (list_ids width tips) 0 r₀ m₀ st
      → (s : State) × Early (shape_for w.settings c d) (list_ids width tips) k r m s × (tips_all w (ids_from width n k tips) s ≡ tips_all w (list_ids width tips) st)

pub turns-start : {width : ℕ} {store tips excluded : List ℕ} {o : Sorting} {m : Memory} {r : Record} → Turns width store tips excluded o m r (length tips / width) m r 0
turns-start {width} {tips = tips} = record {
  low = omega arith;
  count = refl;
  long = record { names = refl; marks = refl; times = refl; line = refl };
  inside = λ y h. subst (Memᴰ y) (ids-start width tips) h;
  taken = λ w c d st wd ok v b g. (st, g, ap (λ (l : List Id). tips_all w l st) (ids-start width tips));
}

tip_wide : (width : ℕ) (b : List ℕ) (k : ℕ) → k < length b / width → length (at b (width * k) width) ≡ width
tip_wide width b k h = length_at b (width * k) width (omega (arith, apart width h, mul-div-le (length b) width))

one_more : (w : Walk) (x : Id) (xs : List Id) (st : State) → tips_all w (x ∷ xs) st ≡ tips_all w xs (tip_in w st x)
unfolding tips_all
one_more w x xs st = refl

no_more : (w : Walk) (st : State) → tips_all w [] st ≡ st
unfolding tips_all
no_more w st = refl

module _ {width : ℕ} {store tips excluded : List ℕ} {o : Sorting} {m₀ m : Memory} {r₀ r : Record} {n k : ℕ} (t : Turns width store tips excluded o m₀ r₀ n m r k) where
  pub turns_next : {m' : Memory} {r' : Record} → k < n → TakesTip width store excluded o m m' (at tips (width * k) width) r r' → Turns width store tips excluded o m₀ r₀ n m' r' (k + 1)
  turns_next {m'} {r'} h q =
      let x : Id = at tips (width * k) width in
      let e : ids_from width n k tips ≡ x ∷ ids_from width n (k + 1) tips = ids_next width tips n k h in
      let s : suc k ≡ k + 1 = omega arith in
      record {
        low = omega (arith, h);
        count = t.count;
        long = record {
          names = q.long.names ∙ t.long.names;
          marks = q.long.marks ∙ t.long.marks;
          times = q.long.times ∙ t.long.times;
          line = q.long.line ∙ t.long.line;
        };
        inside = λ y i. t.inside y (subst (Memᴰ y) (sym e) (Memᴰ.tail i));
        taken = λ w c d st wd ok v b g.
            let f = t.taken w c d st wd ok v b g in
            let p = q.taken w c d k (list_ids width tips) f.0 wd ok v (tip_wide width tips k (omega (arith, h, t.count)))
            (t.inside x (subst (Memᴰ x) (sym e) (Memᴰ.head refl))) b
            (omega (arith, b, h, t.count, length_list width tips, g.universe.few)) f.1 in (
              tip_in w f.0 x,
              subst (λ (j : ℕ). Early (shape_for w.settings c d) (list_ids width tips) j r' m' (tip_in w f.0 x)) s p,
              sym (ap (λ (l : List Id). tips_all w l f.0) e ∙ one_more w x (ids_from width n (k + 1) tips) f.0) ∙ f.2,
            );
      }

  pub turns-end : n ≤ k → TakesTips width store tips excluded o m₀ m r₀ r
  turns-end h = record {
    long = t.long;
    taken = λ w c d st wd ok v b g.
        let f = t.taken w c d st wd ok v b g in
        let e : tips_all w (list_ids width tips) st ≡ f.0 = sym f.2 ∙ ap (λ (l : List Id). tips_all w l f.0) (ids-end width tips n k h) ∙ no_more w f.0 in
        let j : k ≡ length tips / width = omega (arith, h, t.low, t.count) in
        subst (λ (z : State). Early (shape_for w.settings c d) (list_ids width tips) (length tips / width) r m z) (sym e)
        (subst (λ (y : ℕ). Early (shape_for w.settings c d) (list_ids width tips) y r m f.0) j f.1);
  }
