-- Laws of what a file is made of: numbers, parts of equal width one after another, and where a part of a joined list stands. Assumes nothing.
use mathlib.Core.Path.{◌≡◌, refl, sym, ◌∙◌, ap}
use mathlib.Core.List.{List, [], ◌∷◌, ◌++◌, append_assoc}
use Prim.Native.Nat.{ℕ, zero, suc, ◌+◌, ◌*◌, ◌/◌, ◌%◌, ◌≤◌, ◌<◌}
use native.Mathlib.Omega.{arith}
use native.Mathlib.Nat.{mul-suc, mul-zero}
use lib.ListN.{length, take, drop, get_or, length-append, get_or-append}
use lib.Seq.{get_or-append-add, drop-append-add, take_at}
use lib.Dec.{leb}
use Rattle.hash.specs.Bytes.{at, u32_at}
use Rattle.hash.proofs.Bytes.{get_d_at}
use Rattle.hash.proofs.Tests.{by_cases}
use Rattle.graphfile.specs.GraphFile.{Row, row_at, u32, flat, words, at_most_in, fan_from, ids_in, edges_of, edges_in, row_bytes, data_from}

-- ---- numbers

pub back32 : (x : ℕ) → x < 4294967296 → u32_at (u32 x) 0 ≡ x
unfolding u32_at
back32 x h =
    let q₁ : x / 65536 ≡ x / 256 / 256 = omega arith in
    let q₂ : x / 16777216 ≡ x / 65536 / 256 = split (x / 65536) x (omega arith) in
    let m₀ : x / 256 * 256 + x % 256 ≡ x = omega arith in
    let m₁ : x / 65536 * 256 + x / 256 % 256 ≡ x / 256 = rw q₁ (div-mod (x / 256)) in
    let m₂ : x / 16777216 * 256 + x / 65536 % 256 ≡ x / 65536 = rw q₂ (div-mod (x / 65536)) in
    let m₃ : x / 16777216 % 256 ≡ x / 16777216 = low (x / 16777216) (omega arith) in
    sum (x / 16777216 % 256) (x / 65536 % 256) (x / 256 % 256) (x % 256) x (x / 256) (x / 65536) (x / 16777216) m₀ m₁ m₂ m₃
  where
    div-mod : (y : ℕ) → y / 256 * 256 + y % 256 ≡ y
    div-mod y = omega arith

    low : (y : ℕ) → y < 256 → y % 256 ≡ y
    low y l = omega arith

    split : (y z : ℕ) → y ≡ z / 65536 → z / 16777216 ≡ y / 256
    split y z e = omega arith

    sum : (a b c d x y z w : ℕ) → y * 256 + d ≡ x → z * 256 + c ≡ y → w * 256 + b ≡ z → a ≡ w → a * 16777216 + b * 65536 + c * 256 + d ≡ x
    sum a b c d x y z w p q r s = omega arith

-- the number is in its four bytes
pub four_bytes : (b : List ℕ) (i : ℕ) → u32_at (at b i 4) 0 ≡ u32_at b i
unfolding u32_at
four_bytes b i =
    let e : get_or (at b i 4) 0 0 ≡ get_or b (i + 0) 0 = get_d_at b i 4 0 0 (omega arith) in
    let z : get_or b (i + 0) 0 ≡ get_or b i 0 = ap (λ (n : ℕ). get_or b n 0) (let n : i + 0 ≡ i = omega arith in n) in
    omega (arith, get_d_at b i 4 1 0 (omega arith), get_d_at b i 4 2 0 (omega arith), get_d_at b i 4 3 0 (omega arith))

-- ---- past a part

pub past : (a b : List ℕ) (m n i : ℕ) → length a ≡ n → m ≡ n + i → get_or (a ++ b) m 0 ≡ get_or b i 0
past a b m n i e d =
    ap (λ (k : ℕ). get_or (a ++ b) k 0) (let k : m ≡ length a + i = omega arith in k) ∙ get_or-append-add a b i 0

pub past32 : (a b : List ℕ) (m n i : ℕ) → length a ≡ n → m ≡ n + i → u32_at (a ++ b) m ≡ u32_at b i
unfolding u32_at
past32 a b m n i e d =
    omega (
      arith,
      past a b m n i e d,
      past a b (m + 1) n (i + 1) e (omega arith),
      past a b (m + 2) n (i + 2) e (omega arith),
      past a b (m + 3) n (i + 3) e (omega arith),
    )

pub past-at : (a b : List ℕ) (m n i w : ℕ) → length a ≡ n → m ≡ n + i → at (a ++ b) m w ≡ at b i w
unfolding at
past-at a b m n i w e d =
    ap (take w) (ap (λ (k : ℕ). drop k (a ++ b)) (let k : m ≡ length a + i = omega arith in k) ∙ drop-append-add a b i)

-- ---- parts of one width

unfoldable pub nth : List (List ℕ) → ℕ → List ℕ
nth xs i = get_or xs i []

pub record Wide (w : ℕ) (xs : List (List ℕ)) : Type 0 where
  pub each : (k : ℕ) → k < length xs → length (nth xs k) ≡ w

wide_tail : (w : ℕ) (x : List ℕ) (xs : List (List ℕ)) → Wide w (x ∷ xs) → Wide w xs
unfolding nth
wide_tail w x xs h = record { each = λ k l. h.each (suc k) (omega arith) }

wide-head : (w : ℕ) (x : List ℕ) (xs : List (List ℕ)) → Wide w (x ∷ xs) → length x ≡ w
unfolding nth
wide-head w x xs h = h.each 0 (omega arith)

pub length_flat : (w : ℕ) (xs : List (List ℕ)) → Wide w xs → length (flat xs) ≡ w * length xs
unfolding flat
length_flat w [] h = sym (mul-zero w)
length_flat w (x ∷ xs) h =
    omega (arith, length-append x (flat xs), length_flat w xs (wide_tail w x xs h), wide-head w x xs h, mul-suc w (length xs))

pub stride : (w : ℕ) (xs : List (List ℕ)) (r : List ℕ) (i : ℕ) → Wide w xs → i < length xs → at (flat xs ++ r) (w * i) w ≡ nth xs i
unfolding flat nth at
stride w [] r i h l = absurd (omega arith)
stride w (x ∷ xs) r zero h l =
    ap (λ (k : ℕ). take w (drop k ((x ++ flat xs) ++ r))) (mul-zero w) ∙ ap (take w) (append_assoc x (flat xs) r) ∙ take_at x (flat xs ++ r) w (wide-head w x xs h)
stride w (x ∷ xs) r (suc i) h l =
    ap (λ (k : List ℕ). at k (w * suc i) w) (append_assoc x (flat xs) r)
    ∙ past-at x (flat xs ++ r) (w * suc i) w (w * i) w (wide-head w x xs h) (omega (arith, mul-suc w i))
    ∙ stride w xs r i (wide_tail w x xs h) (omega arith)

-- ---- words

pub length_words : (xs : List ℕ) → length (words xs) ≡ length xs
unfolding words
length_words [] = refl
length_words (x ∷ xs) = ap suc (length_words xs)

pub nth_words : (xs : List ℕ) (i : ℕ) → i < length xs → nth (words xs) i ≡ u32 (get_or xs i 0)
unfolding words nth
nth_words [] i l = absurd (omega arith)
nth_words (x ∷ xs) zero l = refl
nth_words (x ∷ xs) (suc i) l = nth_words xs i (omega arith)

pub wide-words : (xs : List ℕ) → Wide 4 (words xs)
wide-words xs = record { each = λ k l. ap length (nth_words xs k (omega (arith, length_words xs))) }

pub word_there : (xs r : List ℕ) (i : ℕ) → i < length xs → get_or xs i 0 < 4294967296 → u32_at (flat (words xs) ++ r) (4 * i) ≡ get_or xs i 0
word_there xs r i l h =
    sym (four_bytes (flat (words xs) ++ r) (4 * i))
    ∙ ap (λ (b : List ℕ). u32_at b 0) (stride 4 (words xs) r i (wide-words xs) (omega (arith, length_words xs)) ∙ nth_words xs i l)
    ∙ back32 (get_or xs i 0) h

-- ---- the fan-out's entries, the ids and the rows

pub length_fan : (rs : List Row) (x n : ℕ) → length (fan_from rs x n) ≡ n
unfolding fan_from
length_fan rs x zero = refl
length_fan rs x (suc n) = ap suc (length_fan rs (suc x) n)

pub fan_there : (rs : List Row) (x n i : ℕ) → i < n → get_or (fan_from rs x n) i 0 ≡ at_most_in rs (x + i) (length rs)
unfolding fan_from
fan_there rs x zero i l = absurd (omega arith)
fan_there rs x (suc n) zero l = ap (λ (k : ℕ). at_most_in rs k (length rs)) (let k : x ≡ x + 0 = omega arith in k)
fan_there rs x (suc n) (suc i) l = fan_there rs (suc x) n i (omega arith) ∙ ap (λ (k : ℕ). at_most_in rs k (length rs)) (let k : suc x + i ≡ x + suc i = omega arith in k)

pub at_most_le : (rs : List Row) (x n : ℕ) → at_most_in rs x n ≤ n
unfolding at_most_in
at_most_le rs x zero = omega arith
at_most_le rs x (suc n) =
    by_cases (leb (get_or (row_at rs n).id 0 0) x) (λ e. rw e (omega (arith, at_most_le rs x n))) (λ e. rw e (omega (arith, at_most_le rs x n)))

pub length_ids : (rs : List Row) → length (ids_in rs) ≡ length rs
unfolding ids_in
length_ids [] = refl
length_ids (r ∷ rs) = ap suc (length_ids rs)

pub nth_ids : (rs : List Row) (i : ℕ) → i < length rs → nth (ids_in rs) i ≡ (row_at rs i).id
unfolding ids_in nth row_at
nth_ids [] i l = absurd (omega arith)
nth_ids (r ∷ rs) zero l = refl
nth_ids (r ∷ rs) (suc i) l = nth_ids rs i (omega arith)

-- how many entries of EDGE stand before row i
unfoldable pub edges_before : List Row → ℕ → ℕ
edges_before [] i = 0
edges_before (r ∷ rs) zero = 0
edges_before (r ∷ rs) (suc i) = length (edges_of r.parents) + edges_before rs i

pub length_data : (e : ℕ) (rs : List Row) → length (data_from e rs) ≡ length rs
unfolding data_from
length_data e [] = refl
length_data e (r ∷ rs) = ap suc (length_data (e + length (edges_of r.parents)) rs)

pub nth_data : (e : ℕ) (rs : List Row) (i : ℕ) → i < length rs → nth (data_from e rs) i ≡ row_bytes (e + edges_before rs i) (row_at rs i)
unfolding data_from nth row_at edges_before
nth_data e [] i l = absurd (omega arith)
nth_data e (r ∷ rs) zero l = ap (λ (k : ℕ). row_bytes k r) (let k : e ≡ e + 0 = omega arith in k)
nth_data e (r ∷ rs) (suc i) l =
    nth_data (e + length (edges_of r.parents)) rs i (omega arith)
    ∙ ap (λ (k : ℕ). row_bytes k (row_at rs i)) (let k : e + length (edges_of r.parents) + edges_before rs i ≡ e + (length (edges_of r.parents) + edges_before rs i) = omega arith in k)

-- the entries of row i stand there
pub edges-there : (rs : List Row) (i j : ℕ) → i < length rs → j < length (edges_of (row_at rs i).parents)
    → (get_or (edges_in rs) (edges_before rs i + j) 0 ≡ get_or (edges_of (row_at rs i).parents) j 0) × (edges_before rs i + j < length (edges_in rs))
unfolding edges_in row_at edges_before
edges-there [] i j l h = absurd (omega arith)
edges-there (r ∷ rs) zero j l h = (
  ap (λ (k : ℕ). get_or (edges_of r.parents ++ edges_in rs) k 0) (let k : 0 + j ≡ j = omega arith in k) ∙ get_or-append (edges_of r.parents) (edges_in rs) 0 j h,
  omega (arith, length-append (edges_of r.parents) (edges_in rs)),
)
edges-there (r ∷ rs) (suc i) j l h =
    let t = edges-there rs i j (omega arith) h in (
      past (edges_of r.parents) (edges_in rs) (length (edges_of r.parents) + edges_before rs i + j) (length (edges_of r.parents)) (edges_before rs i + j) refl (omega arith) ∙ t.0,
      omega (arith, length-append (edges_of r.parents) (edges_in rs), t.1),
    )
