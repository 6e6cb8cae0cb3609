-- One text put down behind another is both put down at once; a byte stored at a place is a text of one byte. Assumes nothing.
use mathlib.Core.Path.{◌≡◌, refl, sym, ◌∙◌, ap, subst}
use Prim.Native.Nat.{ℕ, suc, ◌+◌, ◌≤◌, ◌<◌}
use mathlib.Core.List.{List, [], ◌∷◌, ◌++◌, append_assoc}
use native.Mathlib.Omega.{arith}
use lib.ListN.{length, take, drop, set, length-append, length-set, take-append-drop}
use lib.Seq.{set_split, length-take-le, take-append_seam, drop-append-add, drop-drop}
use Rattle.hash.specs.Bytes.{set_down}
use Rattle.hash.proofs.Bytes.{set_down-fits, length_set_down}
use Rattle.swatch.specs.Contract.{Puts}

set_down-on : (b : List ℕ) (i : ℕ) (y x : List ℕ) → i + length y + length x ≤ length b → set_down (set_down b i y) (i + length y) x ≡ set_down b i (y ++ x)
set_down-on b i y x h =
    let a : List ℕ = take i b ++ y in
    let d : List ℕ = drop (i + length y) b in
    let n : length a ≡ i + length y = length-append (take i b) y ∙ ap (λ (k : ℕ). k + length y) (length-take-le i b (omega arith)) in
    let s : set_down b i y ≡ a ++ d = set_down-fits b i y (omega arith) ∙ sym (append_assoc (take i b) y d) in
    let m : length (a ++ d) ≡ length b = ap length (sym s) ∙ length_set_down b i y in
    let q : i + length (y ++ x) ≡ length a + length x = ap (λ (k : ℕ). i + k) (length-append y x) ∙ omega (arith, n) in
    ap (λ (l : List ℕ). set_down l (i + length y) x) s
    ∙ ap (λ (k : ℕ). set_down (a ++ d) k x) (sym n)
    ∙ set_down-fits (a ++ d) (length a) x (omega (arith, m, n))
    ∙ ap (λ (l : List ℕ). l ++ (x ++ drop (length a + length x) (a ++ d))) (take-append_seam a d)
    ∙ ap (λ (l : List ℕ). a ++ (x ++ l)) (drop-append-add a d (length x) ∙ drop-drop (length x) (i + length y) b ∙ ap (λ (k : ℕ). drop (k + length x) b) (sym n))
    ∙ append_assoc (take i b) y (x ++ drop (length a + length x) b)
    ∙ ap (λ (l : List ℕ). take i b ++ l) (sym (append_assoc y x (drop (length a + length x) b)))
    ∙ ap (λ (k : ℕ). take i b ++ ((y ++ x) ++ drop k b)) (sym q)
    ∙ sym (set_down-fits b i (y ++ x) (omega (arith, length-append y x)))

-- ---- puts

pub puts_byte : (out : List ℕ) (at b r : ℕ) → at < length out → r ≡ at + 1 → Puts out at (b ∷ []) (set out at b) r
puts_byte out at b r h e = record {
  same_length = length-set out at b;
  put = λ f. let n : suc at ≡ at + 1 = omega arith in (set_split out at b h ∙ ap (λ (k : ℕ). take at out ++ (b ∷ drop k out)) n ∙ sym (set_down-fits out at (b ∷ []) f), e);
}

pub puts_none : (out : List ℕ) (at b r : ℕ) → length out ≤ at → Puts out at (b ∷ []) out r
puts_none out at b r h = record { same_length = refl; put = λ f. absurd (omega arith) }

pub puts_then : {out out₁ out₂ : List ℕ} {at r₁ r₂ : ℕ} {x y : List ℕ} → Puts out at x out₁ r₁ → Puts out₁ r₁ y out₂ r₂ → Puts out at (x ++ y) out₂ r₂
puts_then {out} {out₁} {out₂} {at} {r₁} {r₂} {x} {y} p q = record {
  same_length = q.same_length ∙ p.same_length;
  put = λ f.
      let n : length (x ++ y) ≡ length x + length y = length-append x y in
      let a = p.put (omega arith) in
      let b = q.put (omega (arith, a.1, p.same_length)) in (
        b.0 ∙ ap (λ (k : ℕ). set_down out₁ k y) a.1 ∙ ap (λ (l : List ℕ). set_down l (at + length x) y) a.0 ∙ set_down-on out at x y (omega arith),
        b.1 ∙ omega (arith, a.1),
      );
}

-- nothing is put down
pub puts-nothing : (out : List ℕ) (at : ℕ) → Puts out at [] out at
puts-nothing out at = record {
  same_length = refl;
  put = λ f.
      let n : at ≡ at + 0 = omega arith in
      (sym (set_down-fits out at [] f ∙ ap (λ (k : ℕ). take at out ++ drop k out) (sym n) ∙ take-append-drop at out), n);
}

-- the same text
pub puts_as : {out out' : List ℕ} {at r : ℕ} {x y : List ℕ} → Puts out at x out' r → x ≡ y → Puts out at y out' r
puts_as {out} {out'} {at} {r} p e = subst (λ (l : List ℕ). Puts out at l out' r) e p

-- one byte and then a text, known by another name
pub puts_first : {out out₁ out₂ : List ℕ} {at r₁ r₂ b d : ℕ} {y : List ℕ} → Puts out at (b ∷ []) out₁ r₁ → b ≡ d → Puts out₁ r₁ y out₂ r₂ → Puts out at (d ∷ y) out₂ r₂
puts_first {y = y} p e q = puts_as (puts_then p q) (ap (λ (k : ℕ). k ∷ y) e)

pub puts_one : {out out' : List ℕ} {at r b d : ℕ} → Puts out at (b ∷ []) out' r → b ≡ d → Puts out at (d ∷ []) out' r
puts_one p e = puts_as p (ap (λ (k : ℕ). k ∷ []) e)
