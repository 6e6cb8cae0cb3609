-- The fan-out (document 01: OIDF): its entry i counts the ids whose first byte is at most i.
-- Where the entries never fall and every id k stands between the entry before its first byte and the entry at its first byte, the ids
-- whose first byte is at most i are just those below entry i, so entry i is their number. Conversely, first bytes of rising ids never
-- fall, so the ids whose first byte is at most i come first, and where entry i is their number id k stands between its two entries.
-- Assumes nothing.
use mathlib.Core.Path.{◌≡◌, refl, sym, ap, ◌∙◌}
use mathlib.Core.Bool.{Bool, true, false, ◌&&◌}
use mathlib.Core.List.{List, [], ◌∷◌}
use Prim.Native.Nat.{ℕ, zero, suc, ◌+◌, ◌-◌, ◌*◌, ◌≤◌, ◌<◌}
use native.Mathlib.Omega.{arith}
use native.Mathlib.Nat.{add-zero}
use native.Mathlib.Numerals.{add-one}
use lib.ListN.{length, get_or, drop}
use lib.Seq.{get_or-take, get_or-drop}
use lib.Dec.{eqb, ltb, leb}
use borrow.Author.Tests.{ltb-true, leb-true, leb-false, eqb-true, eqb-false, le-leb, lt-leb, eq-eqb}
use Rattle.hash.specs.Bytes.{Id, lt_id, at}
use Rattle.idlist.specs.IdList.{IdList, id_of, rising, Stands, stands_in}
use Rattle.idlist.proofs.Pass.{stand-rising}
use Rattle.idlist.proofs.Rising.{rises}
use Rattle.commitgraph.specs.Graph.{chunk_start, OIDL, fan_at, graph_count, graph_ids, first_byte, at_most, fan_ok, Parts}
use Rattle.hash.proofs.Tests.{clash, by_cases, not_yes, and_first, and_second, and_of, guard_test, guarded}

-- ---- counting ids by their first byte

pub count_le : (w : ℕ) (g : List ℕ) (x n : ℕ) → at_most w g x n ≤ n
unfolding at_most
count_le w g x zero = omega arith
count_le w g x (suc n) = let h = count_le w g x n in by_cases (leb (first_byte w g n) x) (λ e. rw e (omega arith)) (λ e. rw e (omega arith))

pub count-all : (w : ℕ) (g : List ℕ) (x n : ℕ) → ((k : ℕ) → k < n → first_byte w g k ≤ x) → at_most w g x n ≡ n
unfolding at_most
count-all w g x zero h = refl
count-all w g x (suc n) h =
    let r : at_most w g x n ≡ n = count-all w g x n (λ k l. h k (omega arith)) in
    rw (le-leb (first_byte w g n) x (h n (omega arith)), r) (omega arith)

pub count_none : (w : ℕ) (g : List ℕ) (x n d : ℕ) → ((k : ℕ) → n ≤ k → k < n + d → x < first_byte w g k) → at_most w g x (n + d) ≡ at_most w g x n
unfolding at_most
count_none w g x n zero h = let z : n + zero ≡ n = omega arith in rw z
count_none w g x n (suc d) h =
    let z : n + suc d ≡ suc (n + d) = omega arith in
    let r : at_most w g x (n + d) ≡ at_most w g x n = count_none w g x n d (λ k l m. h k l (omega arith)) in
    rw (z, lt-leb (first_byte w g (n + d)) x (h (n + d) (omega arith) (omega arith))) (omega arith)

-- a greater byte counts more, and so do more ids
pub count_up : (w : ℕ) (g : List ℕ) (x y n : ℕ) → x ≤ y → at_most w g x n ≤ at_most w g y n
unfolding at_most
count_up w g x y zero l = omega arith
count_up w g x y (suc n) l =
    let h = count_up w g x y n l in
    by_cases (leb (first_byte w g n) x)
    (λ e. rw (e, le-leb (first_byte w g n) y (let k : first_byte w g n ≤ x = leb-true (first_byte w g n) x e in omega arith)) (omega arith))
    (λ e. rw e (omega arith))

pub count-more : (w : ℕ) (g : List ℕ) (x n d : ℕ) → at_most w g x n ≤ at_most w g x (n + d)
unfolding at_most
count-more w g x n zero = let z : n + zero ≡ n = omega arith in rw z (omega arith)
count-more w g x n (suc d) = let z : n + suc d ≡ suc (n + d) = omega arith in let h = count-more w g x n d in rw z (omega arith)

-- ---- an id between its two entries

-- id k stands at or past the entry before its first byte, and before the entry at its first byte
pub record Between (w : ℕ) (g : List ℕ) (k : ℕ) : Type 0 where
  pub small : first_byte w g k < 256
  pub past : (i : ℕ) → suc i ≡ first_byte w g k → fan_at g i ≤ k
  pub before : k < fan_at g (first_byte w g k)

-- the entries never fall
abbrev pub Rises : List ℕ → Type 0
Rises g = (i : ℕ) → i < 255 → fan_at g i ≤ fan_at g (suc i)

-- one entry more
pub rises-more : (g : List ℕ) (i : ℕ) → ((j : ℕ) → j < i → fan_at g j ≤ fan_at g (suc j)) → fan_at g i ≤ fan_at g (i + 1)
    → (j : ℕ) → j < i + 1 → fan_at g j ≤ fan_at g (suc j)
rises-more g i v h j l =
    by_cases (eqb j i) (λ e. rw (eqb-true j i e) (rw (add-one i) at h)) (λ e. v j (omega (arith, eqb-false j i e)))

pub entries_up : (g : List ℕ) → Rises g → (i d : ℕ) → i + d < 256 → fan_at g i ≤ fan_at g (i + d)
entries_up g r i zero l = let z : i + zero ≡ i = omega arith in rw z (omega arith)
entries_up g r i (suc d) l =
    let z : i + suc d ≡ suc (i + d) = omega arith in
    let h = entries_up g r i d (omega arith) in
    rw z (omega (arith, r (i + d) (omega arith)))

-- an entry and a later one
pub entries_le : (g : List ℕ) → Rises g → (i j : ℕ) → i ≤ j → j < 256 → fan_at g i ≤ fan_at g j
entries_le g r i j l m = let z : i + (j - i) ≡ j = omega arith in rw z at (entries_up g r i (j - i) (omega arith))

-- the ids before entry i are those whose first byte is at most i
module _ (w : ℕ) (g : List ℕ) (last : fan_at g 255 ≡ graph_count g) (r : Rises g) (b : (k : ℕ) → k < graph_count g → Between w g k) (i : ℕ) (l : i < 256) where
  within : fan_at g i ≤ graph_count g
  within = omega (arith, entries_le g r i 255 (omega arith) (omega arith))

  counted : (k : ℕ) → k < fan_at g i → first_byte w g k ≤ i
  counted k h =
      let t : k < graph_count g = omega (arith, within) in
      by_cases (leb (first_byte w g k) i) (λ e. leb-true (first_byte w g k) i e)
      (λ e.
      let m : i < first_byte w g k = leb-false (first_byte w g k) i e in
      let p : fan_at g (first_byte w g k - 1) ≤ k = (b k t).past (first_byte w g k - 1) (omega arith) in
      let q : fan_at g i ≤ fan_at g (first_byte w g k - 1) = entries_le g r i (first_byte w g k - 1) (omega arith) (omega (arith, (b k t).small)) in
      absurd (omega arith))

  uncounted : (k : ℕ) → fan_at g i ≤ k → k < graph_count g → i < first_byte w g k
  uncounted k h t =
      by_cases (leb (first_byte w g k) i)
      (λ e.
      let m : first_byte w g k ≤ i = leb-true (first_byte w g k) i e in
      let q : fan_at g (first_byte w g k) ≤ fan_at g i = entries_le g r (first_byte w g k) i m l in
      absurd (omega (arith, (b k t).before)))
      (λ e. leb-false (first_byte w g k) i e)

  pub counts : fan_at g i ≡ at_most w g i (graph_count g)
  counts =
      let m = fan_at g i in
      let h : m ≤ graph_count g = within in
      let z : m + (graph_count g - m) ≡ graph_count g = omega arith in
      let p : at_most w g i m ≡ m = count-all w g i m counted in
      let q : at_most w g i (m + (graph_count g - m)) ≡ at_most w g i m = count_none w g i m (graph_count g - m) (λ k h t. uncounted k h (omega arith)) in
      let s : at_most w g i (graph_count g) ≡ at_most w g i m = rw z at q in
      sym (s ∙ p)

-- the whole fan-out is right
pub fan_right : (w : ℕ) (g : List ℕ) → fan_at g 255 ≡ graph_count g → Rises g → ((k : ℕ) → k < graph_count g → Between w g k) → (n : ℕ) → n ≤ 256 → fan_ok w g n ≡ true
unfolding fan_ok
fan_right w g last r b zero l = refl
fan_right w g last r b (suc n) l =
    rw (fan_right w g last r b n (omega arith), eq-eqb (fan_at g n) (at_most w g n (graph_count g)) (counts w g last r b n (omega arith)))

-- ---- conversely: what a right fan-out tells

pub fan_counts : (w : ℕ) (g : List ℕ) (n i : ℕ) → fan_ok w g n ≡ true → i < n → fan_at g i ≡ at_most w g i (graph_count g)
unfolding fan_ok
fan_counts w g zero i e l = absurd (omega arith)
fan_counts w g (suc n) i e l =
    by_cases (eqb i n)
    (λ h. let z : i ≡ n = eqb-true i n h in rw z (eqb-true (fan_at g n) (at_most w g n (graph_count g)) (guarded (fan_ok w g n) _ e)))
    (λ h. fan_counts w g n i (guard_test (fan_ok w g n) _ e) (omega (arith, eqb-false i n h)))

pub fan_rises : (w : ℕ) (g : List ℕ) → fan_ok w g 256 ≡ true → Rises g
fan_rises w g e i l =
    let p : fan_at g i ≡ at_most w g i (graph_count g) = fan_counts w g 256 i e (omega arith) in
    let q : fan_at g (suc i) ≡ at_most w g (suc i) (graph_count g) = fan_counts w g 256 (suc i) e (omega arith) in
    omega (arith, count_up w g i (suc i) (graph_count g) (omega arith))

-- an entry that falls
pub fan_falls : (w : ℕ) (g : List ℕ) (i : ℕ) → i < 255 → fan_at g (i + 1) < fan_at g i → fan_ok w g 256 ≡ false
fan_falls w g i l h = not_yes (λ e. let m : fan_at g (suc i) < fan_at g i = rw (add-one i) at h in omega (arith, fan_rises w g e i l))

-- the first byte of an id
pub first_of-id : (w : ℕ) (g : List ℕ) (k : ℕ) → 0 < w → get_or (id_of (graph_ids w g) k) 0 0 ≡ first_byte w g k
unfolding id_of graph_ids first_byte at
first_of-id w g k h =
    let p = chunk_start g OIDL + w * k in
    get_or-take w (drop p g) 0 0 (omega arith) ∙ get_or-drop p g 0 0 ∙ ap (λ (i : ℕ). get_or g i 0) (add-zero p)

-- the first byte of a later id is no lower
pub heads_up : (a b : Id) → lt_id a b ≡ true → get_or a 0 0 ≤ get_or b 0 0
unfolding lt_id
heads_up [] b e = omega arith
heads_up (x ∷ xs) [] e = clash e refl
heads_up (x ∷ xs) (y ∷ ys) e =
    by_cases (ltb x y) (λ h. omega (arith, ltb-true x y h))
    (λ h. by_cases (eqb x y) (λ k. omega (arith, eqb-true x y k)) (λ k. clash (rw (h, k) at e) refl))

-- ids of no bytes do not rise
no_bytes : (g : List ℕ) (k : ℕ) → lt_id (id_of (graph_ids 0 g) k) (id_of (graph_ids 0 g) (suc k)) ≡ true → ⊥
unfolding id_of graph_ids at lt_id
no_bytes g k e = clash e refl

byte_up : (w : ℕ) (g : List ℕ) (k : ℕ) → lt_id (id_of (graph_ids w g) k) (id_of (graph_ids w g) (suc k)) ≡ true → first_byte w g k ≤ first_byte w g (suc k)
byte_up zero g k e = absurd (no_bytes g k e)
byte_up (suc w) g k e =
    rw (first_of-id (suc w) g k (omega arith), first_of-id (suc w) g (suc k) (omega arith)) at (heads_up (id_of (graph_ids (suc w) g) k) (id_of (graph_ids (suc w) g) (suc k)) e)

bytes_up : (w : ℕ) (g : List ℕ) (n j d : ℕ) → rising (graph_ids w g) n ≡ true → j + d < n → first_byte w g j ≤ first_byte w g (j + d)
bytes_up w g n j zero e l = let z : j + zero ≡ j = omega arith in rw z (omega arith)
bytes_up w g n j (suc d) e l =
    let z : j + suc d ≡ suc (j + d) = omega arith in
    let h : first_byte w g j ≤ first_byte w g (j + d) = bytes_up w g n j d e (omega arith) in
    let s : lt_id (id_of (graph_ids w g) (j + d)) (id_of (graph_ids w g) (suc (j + d))) ≡ true = rises (graph_ids w g) n (j + d) (suc (j + d)) e (omega arith) (omega arith) in
    let t : first_byte w g (j + d) ≤ first_byte w g (suc (j + d)) = byte_up w g (j + d) s in
    rw z (omega arith)

-- the first byte of an id and of a later one
pub bytes_le : (w : ℕ) (g : List ℕ) (n j k : ℕ) → rising (graph_ids w g) n ≡ true → j ≤ k → k < n → first_byte w g j ≤ first_byte w g k
bytes_le w g n j k e l m = let z : j + (k - j) ≡ k = omega arith in rw z at (bytes_up w g n j (k - j) e (omega arith))

-- each id stands between its two entries
pub between : (w : ℕ) (g : List ℕ) (k : ℕ) → fan_ok w g 256 ≡ true → rising (graph_ids w g) (graph_count g) ≡ true → k < graph_count g → first_byte w g k < 256 → Between w g k
between w g k f r l s = record { small = s; past = past; before = before }
  where
    past : (i : ℕ) → suc i ≡ first_byte w g k → fan_at g i ≤ k
    past i e =
        let z : k + (graph_count g - k) ≡ graph_count g = omega arith in
        let p : fan_at g i ≡ at_most w g i (graph_count g) = fan_counts w g 256 i f (omega arith) in
        let q : at_most w g i (k + (graph_count g - k)) ≡ at_most w g i k =
        count_none w g i k (graph_count g - k) (λ j h t. let m : first_byte w g k ≤ first_byte w g j = bytes_le w g (graph_count g) k j r h (omega arith) in omega arith) in
        let t : at_most w g i (graph_count g) ≡ at_most w g i k = rw z at q in
        omega (arith, count_le w g i k)

    before : k < fan_at g (first_byte w g k)
    before =
        let b = first_byte w g k in
        let z : suc k + (graph_count g - suc k) ≡ graph_count g = omega arith in
        let p : fan_at g b ≡ at_most w g b (graph_count g) = fan_counts w g 256 b f s in
        let q : at_most w g b (suc k) ≡ suc k = count-all w g b (suc k) (λ j h. bytes_le w g (graph_count g) j k r (omega arith) l) in
        let t : at_most w g b (suc k) ≤ at_most w g b (graph_count g) = rw z at (count-more w g b (suc k) (graph_count g - suc k)) in
        omega arith

-- ---- the test of one entry

-- an entry that does not part the ids spoils the whole
pub not_low : (w : ℕ) (g : List ℕ) (b k : ℕ) → b < 256 → suc k ≡ fan_at g b → k < graph_count g → first_byte w g k < 256 → b < first_byte w g k
    → (fan_ok w g 256 && rising (graph_ids w g) (graph_count g)) ≡ false
not_low w g b k h e l s t =
    not_yes
    (λ y.
    let f = and_first (fan_ok w g 256) (rising (graph_ids w g) (graph_count g)) y in
    let n = between w g k f (and_second (fan_ok w g 256) (rising (graph_ids w g) (graph_count g)) y) l s in
    let p : fan_at g (first_byte w g k - 1) ≤ k = n.past (first_byte w g k - 1) (omega arith) in
    omega (arith, entries_le g (fan_rises w g f) b (first_byte w g k - 1) (omega arith) (omega arith)))

pub not-high : (w : ℕ) (g : List ℕ) (b : ℕ) → b < 256 → fan_at g b < graph_count g → first_byte w g (fan_at g b) < 256 → first_byte w g (fan_at g b) ≤ b
    → (fan_ok w g 256 && rising (graph_ids w g) (graph_count g)) ≡ false
not-high w g b h l s t =
    not_yes
    (λ y.
    let f = and_first (fan_ok w g 256) (rising (graph_ids w g) (graph_count g)) y in
    let n = between w g (fan_at g b) f (and_second (fan_ok w g 256) (rising (graph_ids w g) (graph_count g)) y) l s in
    omega (arith, n.before, entries_le g (fan_rises w g f) (first_byte w g (fan_at g b)) b t h))

-- one entry more
pub parts_more : (w : ℕ) (g : List ℕ) (i : ℕ) → ((b : ℕ) → b < i → Parts w g b) → Parts w g i → (b : ℕ) → b < i + 1 → Parts w g b
parts_more w g i v p b l = by_cases (eqb b i) (λ e. rw (eqb-true b i e) p) (λ e. v b (omega (arith, eqb-false b i e)))

-- where every entry parts rising ids, each id stands between its two entries
module _ (w : ℕ) (g : List ℕ) (last : fan_at g 255 ≡ graph_count g) (r : Rises g) (up : rising (graph_ids w g) (graph_count g) ≡ true)
    (p : (b : ℕ) → b < 256 → Parts w g b) (k : ℕ) (l : k < graph_count g) (s : first_byte w g k < 256) where
  after-low : (i : ℕ) → suc i ≡ first_byte w g k → fan_at g i ≤ k
  after-low i e =
      by_cases (leb (fan_at g i) k) (λ h. leb-true (fan_at g i) k h)
      (λ h.
      let m : k < fan_at g i = leb-false (fan_at g i) k h in
      let t : fan_at g i ≤ graph_count g = omega (arith, entries_le g r i 255 (omega arith) (omega arith)) in
      let z : suc (fan_at g i - 1) ≡ fan_at g i = omega arith in
      let a : first_byte w g k ≤ first_byte w g (fan_at g i - 1) = bytes_le w g (graph_count g) k (fan_at g i - 1) up (omega arith) (omega arith) in
      absurd (omega (arith, (p i (omega arith)).low (fan_at g i - 1) z)))

  below-high : k < fan_at g (first_byte w g k)
  below-high =
      by_cases (leb (fan_at g (first_byte w g k)) k)
      (λ h.
      let m : fan_at g (first_byte w g k) ≤ k = leb-true (fan_at g (first_byte w g k)) k h in
      let a : first_byte w g (fan_at g (first_byte w g k)) ≤ first_byte w g k = bytes_le w g (graph_count g) (fan_at g (first_byte w g k)) k up m l in
      absurd (omega (arith, (p (first_byte w g k) s).high (omega arith))))
      (λ h. leb-false (fan_at g (first_byte w g k)) k h)

  pub parted : Between w g k
  parted = record { small = s; past = after-low; before = below-high }

-- ---- the ids and the fan-out together

-- what the test of the ids tells
pub ids-told : (w : ℕ) (g : List ℕ) (ids count : ℕ) {r : Bool} → 0 < w → ids ≡ chunk_start g OIDL → count ≡ graph_count g → ids + w * count ≤ length g
    → (let l : IdList = record { bytes = g; width = w; base = ids; stride = w } in r ≡ (stands_in l count && rising l count)) → r ≡ rising (graph_ids w g) (graph_count g)
unfolding graph_ids
ids-told w g ids count p e f h t =
    let k : Stands (graph_ids w g) (graph_count g) = record { moves = p; apart = omega arith; inside = rw (e, f) at h } in
    rw (e, f) at t ∙ stand-rising (graph_ids w g) (graph_count g) k

-- ids that do not rise spoil the whole
pub not-rising : (w : ℕ) (g : List ℕ) → rising (graph_ids w g) (graph_count g) ≡ false → (fan_ok w g 256 && rising (graph_ids w g) (graph_count g)) ≡ false
not-rising w g e = not_yes (λ y. clash (and_second (fan_ok w g 256) (rising (graph_ids w g) (graph_count g)) y) e)

first_small : (w : ℕ) (g : List ℕ) → ((i : ℕ) → get_or g i 0 < 256) → (k : ℕ) → first_byte w g k < 256
unfolding first_byte
first_small w g s k = s (chunk_start g OIDL + w * k)

-- of rising ids the entries decide
pub entries_decide : (w : ℕ) (g : List ℕ) (r : Bool) → fan_at g 255 ≡ graph_count g → Rises g → ((i : ℕ) → get_or g i 0 < 256) → rising (graph_ids w g) (graph_count g) ≡ true
    → (r ≡ true → (b : ℕ) → b < 256 → Parts w g b) × (r ≡ false → (fan_ok w g 256 && rising (graph_ids w g) (graph_count g)) ≡ false)
    → r ≡ (fan_ok w g 256 && rising (graph_ids w g) (graph_count g))
entries_decide w g r last u s up t =
    by_cases r
    (λ e. e ∙ sym (and_of (fan_right w g last u (λ k l. parted w g last u up (t.0 e) k l (first_small w g s k)) 256 (omega arith)) up))
    (λ e. e ∙ sym (t.1 e))
