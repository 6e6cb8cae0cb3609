-- The three ways of a list: `out` is too short, the input is too large, or the walk is opened. Assumes nothing.
use Prim.Native.Nat.{ℕ, ◌≤◌, ◌<◌}
use mathlib.Core.Path.{◌≡◌, refl, ◌∙◌, ap, subst₂}
use mathlib.Core.List.{List, []}
use native.Mathlib.Omega.{arith}
use lib.ListN.{length}
use borrow.Author.Tests.{le-leb, lt-leb}
use Rattle.hash.specs.Bytes.{set_down}
use Rattle.walk.specs.declared.Refusal.TheVariants.{InputTooLarge}
use Rattle.opening.specs.Checks.{input_of}
use Rattle.traverse.specs.Contract.{Lent, lengths_of}
use Rattle.swatch.specs.Text.{refusal_line, most_bytes, breadth_all, tips_in, store_in, input_in, text}
use Rattle.swatch.specs.Contract.{Puts, ListsStore, Lists}
use Rattle.swatch.proofs.Bound.{text-fits}

pub lists-short : {b : List ℕ} {m : Lent} {out : List ℕ} → length out < most_bytes → Lists b m out m out 0
lists-short h = record {
  listed = λ l. absurd (omega arith);
  long = λ l. absurd (omega arith);
  within = omega arith;
  same-lengths = refl;
  short = λ l. (refl, refl, refl);
  parents = λ l. absurd (omega arith);
  too_large = λ l. refl;
  refused_open = λ r e. refl;
}

module _ {out : List ℕ} (h : most_bytes ≤ length out) where
  -- the text stands at the start
  put_whole : (b : List ℕ) (m : Lent) {x out' : List ℕ} {a : ℕ} → x ≡ text b (lengths_of m) → Puts out 0 x out' a → (out' ≡ set_down out 0 (text b (lengths_of m))) × (a ≡ length (text b (lengths_of m)))
  put_whole b m e p =
      let q = p.put (omega (arith, ap length e, text-fits b (lengths_of m))) in
      (q.0 ∙ ap (set_down out 0) e, omega (arith, q.1, ap length e))

  pub lists-large : {b : List ℕ} {m : Lent} {out' : List ℕ} {a : ℕ} → most_bytes < length b → Puts out 0 (refusal_line InputTooLarge) out' a → Lists b m out m out' a
  unfolding text
  lists-large {b} {m} g p =
      let q = put_whole b m (simp (lt-leb (length b) most_bytes g)) p in
      record {
        listed = λ l. q.0;
        long = λ l. q.1;
        within = omega (arith, q.1, text-fits b (lengths_of m));
        same-lengths = refl;
        short = λ l. absurd (omega arith);
        parents = λ l k. absurd (omega arith);
        too_large = λ l. refl;
        refused_open = λ r e. refl;
      }

  in-full : {b : List ℕ} {m m' : Lent} {out' : List ℕ} {a : ℕ} → length b ≤ most_bytes → ListsStore (input_in b) m out m' out' a → Lists b m out m' out' a
  unfolding text
  in-full {b} {m} g s =
      let q = put_whole b m (simp (le-leb (length b) most_bytes g)) s.listed in
      record {
        listed = λ l. q.0;
        long = λ l. q.1;
        within = omega (arith, q.1, text-fits b (lengths_of m));
        same-lengths = s.same-lengths;
        short = λ l. absurd (omega arith);
        parents = λ l k. s.parents;
        too_large = λ l. absurd (omega arith);
        refused_open = s.refused_open;
      }

  pub lists-store : {b store tips : List ℕ} {m m' : Lent} {out' : List ℕ} {a : ℕ} → length b ≤ most_bytes → store ≡ store_in b → tips ≡ tips_in b
      → ListsStore (input_of store [] tips [] [] breadth_all) m out m' out' a → Lists b m out m' out' a
  unfolding input_in
  lists-store {m = m} {m'} {out'} {a} g e f s = in-full g (subst₂ (λ (k t : List ℕ). ListsStore (input_of k [] t [] [] breadth_all) m out m' out' a) e f s)
