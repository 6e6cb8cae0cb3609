-- Bytes at places: parts with the same bytes are the same, and numbers that are the same have the same bytes. Assumes nothing.
use mathlib.Core.Path.{◌≡◌, refl, sym, ◌∙◌, ap}
use mathlib.Core.Logic.{◌⊎◌, inl, inr, ⊎_elim}
use Prim.Native.Nat.{ℕ, zero, suc, ◌+◌, ◌-◌, ◌*◌, ◌≤◌, ◌<◌}
use mathlib.Core.List.{List}
use native.Mathlib.Omega.{arith}
use lib.Dec.{ltb}
use lib.ListN.{length, get_or}
use lib.Seq.{ext_get_or}
use borrow.Author.Tests.{ltb-true, ltb-false}
use Rattle.hash.specs.Bytes.{at}
use Rattle.hash.proofs.Tests.{by_cases}
use Rattle.hash.proofs.Bytes.{length_at, get_d_at}
use Rattle.hashtable.specs.Words.{Agree, half32, word64}

less? : (a b : ℕ) → (a < b) ⊎ (b ≤ a)
less? a b = by_cases (ltb a b) (λ e. inl (ltb-true a b e)) (λ e. inr (ltb-false a b e))

fourth : (P : ℕ → Type 0) → P 0 → P 1 → P 2 → P 3 → (m : ℕ) → m < 4 → P m
fourth P a b c d zero h = a
fourth P a b c d (suc zero) h = b
fourth P a b c d (suc (suc zero)) h = c
fourth P a b c d (suc (suc (suc zero))) h = d
fourth P a b c d (suc (suc (suc (suc m)))) h = absurd (omega arith)

pub at-whole : (a : List ℕ) (i : ℕ) (x : List ℕ) (n : ℕ) → i + n ≤ length a → length x ≡ n → Agree a i x 0 n → at a i n ≡ x
at-whole a i x n la lx f =
    ext_get_or 0 (at a i n) x (length_at a i n la ∙ sym lx)
    (λ m h.
    let k : m < n = omega (arith, length_at a i n la) in
    let z : 0 + m ≡ m = omega arith in
    get_d_at a i n m 0 k ∙ f m k ∙ ap (λ (p : ℕ). get_or x p 0) z)

pub at_agree : (a : List ℕ) (i : ℕ) (x : List ℕ) (n : ℕ) → at a i n ≡ x → Agree a i x 0 n
at_agree a i x n e m h =
    let z : 0 + m ≡ m = omega arith in
    sym (get_d_at a i n m 0 h) ∙ ap (λ (s : List ℕ). get_or s m 0) e ∙ ap (λ (p : ℕ). get_or x p 0) (sym z)

pub agree_none : (a : List ℕ) (i : ℕ) (b : List ℕ) (j : ℕ) → Agree a i b j 0
agree_none a i b j m h = absurd (omega arith)

pub agree_more : (a : List ℕ) (i : ℕ) (b : List ℕ) (j m n : ℕ) → Agree a i b j m → Agree a (i + m) b (j + m) n → Agree a i b j (m + n)
agree_more a i b j m n f g p h =
    ⊎_elim (λ l. f p l)
    (λ l.
    let q : i + m + (p - m) ≡ i + p = omega arith in
    let r : j + m + (p - m) ≡ j + p = omega arith in
    let k : p - m < n = omega arith in
    ap (λ (o : ℕ). get_or a o 0) (sym q) ∙ g (p - m) k ∙ ap (λ (o : ℕ). get_or b o 0) r)
    (less? p m)

pub agree_less : (a : List ℕ) (i : ℕ) (b : List ℕ) (j m n k : ℕ) → m + k ≤ n → Agree a i b j n → Agree a (i + m) b (j + m) k
agree_less a i b j m n k l f p h =
    let q : i + m + p ≡ i + (m + p) = omega arith in
    let r : j + m + p ≡ j + (m + p) = omega arith in
    ap (λ (o : ℕ). get_or a o 0) q ∙ f (m + p) (omega arith) ∙ ap (λ (o : ℕ). get_or b o 0) (sym r)

-- ---- numbers and their bytes

digit : (h k x y : ℕ) → x < 256 → y < 256 → h * 256 + x ≡ k * 256 + y → (h ≡ k) × (x ≡ y)
digit h k x y l m e = (omega arith, omega arith)

four : (a b c d e f g h : ℕ) → b < 256 → c < 256 → d < 256 → f < 256 → g < 256 → h < 256 → a < 256 → e < 256 → ((a * 256 + b) * 256 + c) * 256 + d ≡ ((e * 256 + f) * 256 + g) * 256 + h
    → (a ≡ e) × (b ≡ f) × (c ≡ g) × (d ≡ h)
four a b c d e f g h lb lc ld lf lg lh la le q =
    let u = digit ((a * 256 + b) * 256 + c) ((e * 256 + f) * 256 + g) d h ld lh q in
    let v = digit (a * 256 + b) (e * 256 + f) c g lc lg u.0 in
    let w = digit a e b f lb lf v.0 in
    (w.0, w.1, v.1, u.1)

-- every element of a list is a byte
abbrev pub Small : List ℕ → Type 0
Small a = (k : ℕ) → get_or a k 0 < 256

pub agree_4 : (a : List ℕ) (i : ℕ) (b : List ℕ) (j : ℕ) → Small a → Small b → half32 a i ≡ half32 b j → Agree a i b j 4
unfolding half32
agree_4 a i b j sa sb e =
    let p : i + 0 ≡ i = omega arith in
    let q : j + 0 ≡ j = omega arith in
    let f : ((get_or a (i + 3) 0 * 256 + get_or a (i + 2) 0) * 256 + get_or a (i + 1) 0) * 256 + get_or a i 0 ≡ ((get_or b (j + 3) 0 * 256 + get_or b (j + 2) 0) * 256 + get_or b (j + 1) 0) * 256 + get_or b j 0 = omega (arith, e) in
    let r = four (get_or a (i + 3) 0) (get_or a (i + 2) 0) (get_or a (i + 1) 0) (get_or a i 0) (get_or b (j + 3) 0) (get_or b (j + 2) 0) (get_or b (j + 1) 0) (get_or b j 0)
    (sa (i + 2)) (sa (i + 1)) (sa i) (sb (j + 2)) (sb (j + 1)) (sb j) (sa (i + 3)) (sb (j + 3)) f in
    fourth (λ (m : ℕ). get_or a (i + m) 0 ≡ get_or b (j + m) 0) (ap (λ (o : ℕ). get_or a o 0) p ∙ r.3 ∙ ap (λ (o : ℕ). get_or b o 0) (sym q)) r.2 r.1 r.0

pub agree_u32 : (a : List ℕ) (i : ℕ) (b : List ℕ) (j : ℕ) → Agree a i b j 4 → half32 a i ≡ half32 b j
unfolding half32
agree_u32 a i b j f =
    let p : i + 0 ≡ i = omega arith in
    let q : j + 0 ≡ j = omega arith in
    let z : get_or a i 0 ≡ get_or b j 0 = ap (λ (o : ℕ). get_or a o 0) (sym p) ∙ f 0 (omega arith) ∙ ap (λ (o : ℕ). get_or b o 0) q in
    omega (arith, f 1 (omega arith), f 2 (omega arith), f 3 (omega arith))

pub u32-small : (a : List ℕ) (i : ℕ) → Small a → half32 a i < 4294967296
unfolding half32
u32-small a i s = omega (arith, s i, s (i + 1), s (i + 2), s (i + 3))

pub agree_8 : (a : List ℕ) (i : ℕ) (b : List ℕ) (j : ℕ) → Small a → Small b → word64 a i ≡ word64 b j → Agree a i b j 8
unfolding word64
agree_8 a i b j sa sb e =
    let la = u32-small a i sa in
    let lb = u32-small b j sb in
    let p : half32 a i ≡ half32 b j = omega arith in
    let q : half32 a (i + 4) ≡ half32 b (j + 4) = omega arith in
    agree_more a i b j 4 4 (agree_4 a i b j sa sb p) (agree_4 a (i + 4) b (j + 4) sa sb q)

pub agree_u64 : (a : List ℕ) (i : ℕ) (b : List ℕ) (j : ℕ) → Agree a i b j 8 → word64 a i ≡ word64 b j
unfolding word64
agree_u64 a i b j f =
    let p = agree_u32 a i b j (λ m h. f m (omega arith)) in
    let q = agree_u32 a (i + 4) b (j + 4) (agree_less a i b j 4 8 4 (omega arith) f) in
    omega arith

-- twenty bytes by words of 8, 8 and 4, and twelve by 8 and 4
module _ (a : List ℕ) (i : ℕ) (b : List ℕ) where
  pub agree-20 : Small a → Small b → word64 a i ≡ word64 b 0 → word64 a (i + 8) ≡ word64 b 8 → half32 a (i + 16) ≡ half32 b 16 → Agree a i b 0 20
  agree-20 sa sb e f g = agree_more a i b 0 16 4 (agree_more a i b 0 8 8 (agree_8 a i b 0 sa sb e) (agree_8 a (i + 8) b 8 sa sb f)) (agree_4 a (i + 16) b 16 sa sb g)

  pub agree-12 : Small a → Small b → word64 a i ≡ word64 b 20 → half32 a (i + 8) ≡ half32 b 28 → Agree a i b 20 12
  agree-12 sa sb e f = agree_more a i b 20 8 4 (agree_8 a i b 20 sa sb e) (agree_4 a (i + 8) b 28 sa sb f)

-- an id of either width by its first twenty bytes and the twelve after them
pub by-start : (names : List ℕ) (i : ℕ) (id : List ℕ) (w : ℕ) → w ≡ 20 → i + w ≤ length names → length id ≡ w → Agree names i id 0 20 → at names i w ≡ id
by-start names i id w e l n f = at-whole names i id w l n (λ m h. f m (omega arith))

pub by-rest : (names : List ℕ) (i : ℕ) (id : List ℕ) (w : ℕ) → w ≡ 32 → i + w ≤ length names → length id ≡ w → Agree names i id 0 20 → Agree names (i + 20) id 20 12 → at names i w ≡ id
by-rest names i id w e l n f g = at-whole names i id w l n (λ m h. agree_more names i id 0 20 12 f g m (omega arith))

pub start_of_lem : (names : List ℕ) (i : ℕ) (id : List ℕ) (w : ℕ) → 20 ≤ w → at names i w ≡ id → Agree names i id 0 20
start_of_lem names i id w l e m h = at_agree names i id w e m (omega arith)

pub rest_of : (names : List ℕ) (i : ℕ) (id : List ℕ) (w : ℕ) → w ≡ 32 → at names i w ≡ id → Agree names (i + 20) id 20 12
rest_of names i id w l e = agree_less names i id 0 20 w 12 (omega arith) (at_agree names i id w e)

-- the slot's place by a width that is told
pub stands : (names : List ℕ) (w z k : ℕ) (id : List ℕ) → z ≡ w → at names (z * k) w ≡ id → at names (w * k) w ≡ id
stands names w z k id e f = ap (λ (y : ℕ). at names (y * k) w) (sym e) ∙ f

pub stands_so : (names : List ℕ) (w z k : ℕ) (id : List ℕ) → z ≡ w → at names (w * k) w ≡ id → at names (z * k) w ≡ id
stands_so names w z k id e f = ap (λ (y : ℕ). at names (y * k) w) e ∙ f
