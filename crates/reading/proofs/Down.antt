-- Ids set down end to end at the start of a buffer: one more goes behind those that stand there, and what stands past it is as it was.
-- Assumes nothing.
use mathlib.Core.Path.{◌≡◌, sym, ap, ◌∙◌}
use Prim.Native.Nat.{ℕ, zero, suc, ◌+◌, ◌*◌, ◌-◌, ◌≤◌, ◌<◌}
use mathlib.Core.Bool.{true, false}
use mathlib.Core.List.{List, [], ◌∷◌, ◌++◌, append_assoc, append-nil}
use native.Mathlib.Omega.{arith}
use native.Mathlib.Nat.{mul-zero, mul-suc}
use lib.Dec.{leb}
use lib.ListN.{length, take, drop, get_or, length-append, length-drop}
use lib.Seq.{length-take-le, take-append_seam, drop-append-add, drop-drop, get_or-append-add, get_or-drop}
use borrow.Author.Tests.{leb-true, leb-false}
use Rattle.hash.specs.Bytes.{Id, at, set_down}
use Rattle.hash.proofs.Bytes.{set_down-fits, set_down-not}
use Rattle.hash.proofs.Tests.{by_cases}
use Rattle.walk.specs.Given.{joined}

pub joined_snoc : (l : List Id) (x : Id) → joined (l ++ (x ∷ [])) ≡ joined l ++ x
unfolding joined
joined_snoc [] x = append-nil x
joined_snoc (y ∷ l) x = ap (λ (r : List ℕ). y ++ r) (joined_snoc l x) ∙ sym (append_assoc y (joined l) x)

pub set_down-start : (b y : List ℕ) → length y ≤ length b → set_down b 0 y ≡ y ++ drop (length y) b
set_down-start b y h =
    let z : 0 + length y ≡ length y = omega arith in
    set_down-fits b 0 y (omega arith) ∙ ap (λ (k : ℕ). y ++ drop k b) z

pub set_down-none : (b : List ℕ) → b ≡ set_down b 0 []
set_down-none b = sym (set_down-start b [] (omega arith))

-- bytes set down behind those at the start
pub set_down-next : (b y x : List ℕ) → length y + length x ≤ length b → set_down (set_down b 0 y) (length y) x ≡ set_down b 0 (y ++ x)
set_down-next b y x h =
    let d : List ℕ = drop (length y) b in
    let n : length y + length x ≤ length (y ++ d) = simp (length-append, length-drop) (omega arith) in
    let m : length (y ++ x) ≤ length b = simp length-append h in
    ap (λ (l : List ℕ). set_down l (length y) x) (set_down-start b y (omega arith))
    ∙ set_down-fits (y ++ d) (length y) x n
    ∙ ap (λ (l : List ℕ). l ++ (x ++ drop (length y + length x) (y ++ d))) (take-append_seam y d)
    ∙ ap (λ (l : List ℕ). y ++ (x ++ l)) (drop-append-add y d (length x) ∙ drop-drop (length x) (length y) b)
    ∙ sym (append_assoc y x (drop (length y + length x) b))
    ∙ ap (λ (k : ℕ). (y ++ x) ++ drop k b) (sym (length-append y x))
    ∙ sym (set_down-start b (y ++ x) m)

-- the bytes past those that are set down
pub set_down-past : (b : List ℕ) (i : ℕ) (x : List ℕ) (j : ℕ) → i + length x ≤ j → get_or (set_down b i x) j 0 ≡ get_or b j 0
set_down-past b i x j h = by_cases (leb (i + length x) (length b)) fits misfit
  where
    fits : leb (i + length x) (length b) ≡ true → get_or (set_down b i x) j 0 ≡ get_or b j 0
    fits e =
        let n : i + length x ≤ length b = leb-true (i + length x) (length b) e in
        let a : length (take i b) ≡ i = length-take-le i b (omega arith) in
        let u : j ≡ length (take i b) + (length x + (j - (i + length x))) = omega (arith, a) in
        let w : i + length x + (j - (i + length x)) ≡ j = omega arith in
        ap (λ (l : List ℕ). get_or l j 0) (set_down-fits b i x n)
        ∙ ap (λ (k : ℕ). get_or (take i b ++ (x ++ drop (i + length x) b)) k 0) u
        ∙ get_or-append-add (take i b) (x ++ drop (i + length x) b) (length x + (j - (i + length x))) 0
        ∙ get_or-append-add x (drop (i + length x) b) (j - (i + length x)) 0
        ∙ get_or-drop (i + length x) b (j - (i + length x)) 0
        ∙ ap (λ (k : ℕ). get_or b k 0) w

    misfit : leb (i + length x) (length b) ≡ false → get_or (set_down b i x) j 0 ≡ get_or b j 0
    misfit e = ap (λ (l : List ℕ). get_or l j 0) (set_down-not b i x (leb-false (i + length x) (length b) e))

-- ---- ids of one width

-- every id of a list is w bytes wide
abbrev pub Wide : ℕ → List Id → Type 0
Wide w l = (k : ℕ) → k < length l → length (get_or l k []) ≡ w

wide-rest : {w : ℕ} (x : Id) (l : List Id) → Wide w (x ∷ l) → Wide w l
wide-rest x l h k i = h (suc k) (omega arith)

pub joined_length : (w : ℕ) (l : List Id) → Wide w l → length (joined l) ≡ w * length l
unfolding joined
joined_length w [] h = sym (mul-zero w)
joined_length w (x ∷ l) h = simp length-append (omega (arith, h 0 (omega arith), joined_length w l (wide-rest x l h), mul-suc w (length l)))

-- id k of those that stand end to end
pub joined_at : (w : ℕ) (l : List Id) (c : List ℕ) (k : ℕ) → Wide w l → k < length l → at (joined l ++ c) (w * k) w ≡ get_or l k []
unfolding joined at
joined_at w [] c k h i = absurd (omega arith)
joined_at w (x ∷ l) c zero h i =
    let e : length x ≡ w = h 0 (omega arith) in
    ap (λ (j : ℕ). take w (drop j ((x ++ joined l) ++ c))) (mul-zero w)
    ∙ ap (take w) (append_assoc x (joined l) c)
    ∙ ap (λ (j : ℕ). take j (x ++ (joined l ++ c))) (sym e)
    ∙ take-append_seam x (joined l ++ c)
joined_at w (x ∷ l) c (suc k) h i =
    let e : length x ≡ w = h 0 (omega arith) in
    let n : w * suc k ≡ length x + w * k = omega (arith, mul-suc w k, e) in
    ap (λ (j : ℕ). take w (drop j ((x ++ joined l) ++ c))) n
    ∙ ap (λ (b : List ℕ). take w (drop (length x + w * k) b)) (append_assoc x (joined l) c)
    ∙ ap (take w) (drop-append-add x (joined l ++ c) (w * k))
    ∙ joined_at w l c k (wide-rest x l h) (omega arith)
