-- Ids of one width set down one behind the other are set down at once, as far as whole ids fit, and are read back as they were. Assumes nothing.
use mathlib.Core.Path.{◌≡◌, refl, sym, ◌∙◌, ap, subst}
use mathlib.Core.Logic.{⊎_elim}
use Prim.Native.Nat.{ℕ, zero, suc, ◌+◌, ◌*◌, ◌-◌, ◌/◌, ◌≤◌, ◌<◌}
use mathlib.Core.List.Memᴰ
use mathlib.Core.List.{List, [], ◌∷◌, ◌++◌, append_assoc}
use native.Mathlib.Nat.{mul-zero}
use native.Mathlib.Omega.{arith}
use lib.ListN.{length, take, drop, length-append, length-take, take-append-drop}
use lib.Seq.{length-take-le, take-nil, take_at, drop_at, drop-append-add, drop-drop, take-take}
use Rattle.hash.specs.Bytes.{Id, set_down, ids_of}
use Rattle.hash.proofs.Widths.{in_all, ids-fit, fit-ids}
use Rattle.hash.proofs.Bytes.{set_down-fits, set_down-not, length_set_down}
use Rattle.hashtable.proofs.TableIds.{less?}
use Rattle.walk.specs.Reach.{Mem}
use Rattle.walk.specs.Given.{joined}
use Rattle.driver.proofs.Ended.{set_down-nothing}
use Rattle.driver.proofs.Whole.{Wide}
use Rattle.lister.specs.Walked.{put_down}

wide-head : (width : ℕ) (x : Id) (l : List Id) → Wide width (x ∷ l) → length x ≡ width
wide-head width x l w = w x (Memᴰ.head refl)

wide_tail : (width : ℕ) (x : Id) (l : List Id) → Wide width (x ∷ l) → Wide width l
wide_tail width x l w y m = w y (Memᴰ.tail m)

wide_take : (width : ℕ) (n : ℕ) (l : List Id) → Wide width l → Wide width (take n l)
wide_take width n l w x m = w x (subst (λ (r : List Id). Mem x r) (take-append-drop n l) (Memᴰ.append_left (drop n l) m))

length_joined : (width : ℕ) (l : List Id) → Wide width l → length (joined l) ≡ width * length l
unfolding joined
length_joined width [] w = sym (mul-zero width)
length_joined width (x ∷ l) w = length-append x (joined l) ∙ omega (arith, wide-head width x l w, length_joined width l (wide_tail width x l w))

-- ---- set down at once

-- bytes set down behind others
set_down_behind : (b : List ℕ) (i : ℕ) (x y : List ℕ) → i + length x + length y ≤ length b → set_down (set_down b i x) (i + length x) y ≡ set_down b i (x ++ y)
set_down_behind b i x y h =
    let p : List ℕ = take i b ++ x in
    let d : List ℕ = drop (i + length x) b in
    let n : length p ≡ i + length x = length-append (take i b) x ∙ ap (λ (k : ℕ). k + length x) (length-take-le i b (omega arith)) in
    let e : set_down b i x ≡ p ++ d = set_down-fits b i x (omega arith) ∙ sym (append_assoc (take i b) x d) in
    let f : i + length x + length y ≤ length (p ++ d) = omega (arith, h, ap length e, length_set_down b i x) in
    let k : i + length (x ++ y) ≡ i + length x + length y = omega (arith, length-append x y) in
    let r : List ℕ = drop (i + length x + length y) b in
    ap (λ (l : List ℕ). set_down l (i + length x) y) e
    ∙ set_down-fits (p ++ d) (i + length x) y f
    ∙ ap (λ (l : List ℕ). l ++ (y ++ drop (i + length x + length y) (p ++ d))) (take_at p d (i + length x) n)
    ∙ ap (λ (l : List ℕ). p ++ (y ++ l))
    (ap (λ (j : ℕ). drop (j + length y) (p ++ d)) (sym n) ∙ drop-append-add p d (length y) ∙ drop-drop (length y) (i + length x) b)
    ∙ append_assoc (take i b) x (y ++ r)
    ∙ ap (λ (l : List ℕ). take i b ++ l) (sym (append_assoc x y r))
    ∙ ap (λ (j : ℕ). take i b ++ ((x ++ y) ++ drop j b)) (sym k)
    ∙ sym (set_down-fits b i (x ++ y) (omega (arith, h, k)))

-- room for n ids, one more and r behind it
room_behind : (width len n r : ℕ) → 0 < width → suc n + r ≤ len / width → width * n + width + width * r ≤ len
room_behind width len n r pos h = omega (arith, ids-fit width len (suc n + r) pos h)

-- and none for one more
no_room : (width len n : ℕ) → 0 < width → len / width ≤ n → len < width * n + width
no_room width len n pos h = ⊎_elim (λ g. g) (λ g. absurd (omega (arith, fit-ids width len (suc n) pos (omega (arith, g)), h))) (less? len (width * n + width))

-- as many ids as fit behind the n before them
fit : (width : ℕ) (b : List ℕ) (n : ℕ) (l : List Id) → Wide width l → length (joined (take (length b / width - n) l)) ≤ width * (length b / width - n)
fit width b n l w =
    let m = length b / width - n in
    omega (arith, length_joined width (take m l) (wide_take width m l w), in_all width {j = length (take m l)} {k = m} (omega (arith, length-take m l)))

pub put_down-all : (width : ℕ) → 0 < width → (b : List ℕ) (n : ℕ) (l : List Id) → Wide width l → put_down width b n l ≡ set_down b (width * n) (joined (take (length b / width - n) l))
unfolding put_down joined
put_down-all width pos b n [] w = sym (ap (λ (r : List Id). set_down b (width * n) (joined r)) (take-nil (length b / width - n)) ∙ set_down-nothing b (width * n))
put_down-all width pos b n (x ∷ l) w =
    let c : List ℕ = set_down b (width * n) x in
    let q : ℕ = length b / width in
    let y : List ℕ = joined (take (q - suc n) l) in
    let z : width * suc n ≡ width * n + length x = omega (arith, wide-head width x l w) in
    let s : length c ≡ length b = length_set_down b (width * n) x in
    let rest : put_down width c (suc n) l ≡ set_down c (width * suc n) y =
    put_down-all width pos c (suc n) l (wide_tail width x l w) ∙ ap (λ (j : ℕ). set_down c (width * suc n) (joined (take (j / width - suc n) l))) s in
    ⊎_elim
    (λ h.
    let o : q - n ≡ suc (q - suc n) = omega (arith, h) in
    rest
    ∙ ap (λ (j : ℕ). set_down c j y) z
    ∙ set_down_behind b (width * n) x y (omega (arith, fit width b (suc n) l (wide_tail width x l w), wide-head width x l w, room_behind width (length b) n (q - suc n) pos (omega (arith, h))))
    ∙ ap (λ (j : ℕ). set_down b (width * n) (joined (take j (x ∷ l)))) (sym o))
    (λ h.
    let o : q - n ≡ 0 = omega (arith, h) in
    let u : q - suc n ≡ 0 = omega (arith, h) in
    let v : c ≡ b = set_down-not b (width * n) x (omega (arith, no_room width (length b) n pos h, wide-head width x l w)) in
    rest
    ∙ ap (λ (j : ℕ). set_down c (width * suc n) (joined (take j l))) u
    ∙ set_down-nothing c (width * suc n)
    ∙ v
    ∙ sym (set_down-nothing b (width * n))
    ∙ ap (λ (j : ℕ). set_down b (width * n) (joined (take j (x ∷ l)))) (sym o))
    (less? n q)

-- ---- read back

ids-read : (width : ℕ) (k : ℕ) (l : List Id) (r : List ℕ) → Wide width l → k ≤ length l → ids_of width k (joined l ++ r) ≡ take k l
unfolding ids_of joined
ids-read width zero l r w h = refl
ids-read width (suc k) [] r w h = absurd (omega (arith, h))
ids-read width (suc k) (x ∷ l) r w h =
    let e : (x ++ joined l) ++ r ≡ x ++ (joined l ++ r) = append_assoc x (joined l) r in
    ap (λ (b : List ℕ). take width b ∷ ids_of width k (drop width b)) e
    ∙ ap (λ (y : Id). y ∷ ids_of width k (drop width (x ++ (joined l ++ r)))) (take_at x (joined l ++ r) width (wide-head width x l w))
    ∙ ap (λ (b : List ℕ). x ∷ ids_of width k b) (drop_at x (joined l ++ r) width (wide-head width x l w))
    ∙ ap (λ (t : List Id). x ∷ t) (ids-read width k l r (wide_tail width x l w) (omega (arith, h)))

-- the first k of the ids set down from the start, where there is room for k
pub read_back : (width : ℕ) → 0 < width → (b : List ℕ) (l : List Id) (k : ℕ) → Wide width l → k ≤ length l → width * k ≤ length b → ids_of width k (set_down b 0 (joined (take (length b / width) l))) ≡ take k l
read_back width pos b l k w h g =
    let q : ℕ = length b / width in
    let t : List Id = take q l in
    let n : length (joined t) ≡ width * length t = length_joined width t (wide_take width q l w) in
    let m = length-take q l in
    ap (ids_of width k) (set_down-fits b 0 (joined t) (omega (arith, n, ids-fit width (length b) (length t) pos (omega (arith, m)))))
    ∙ ids-read width k t (drop (0 + length (joined t)) b) (wide_take width q l w) (omega (arith, fit-ids width (length b) k pos g, h, m))
    ∙ take-take k q l (fit-ids width (length b) k pos g)

-- past them every byte is as it was
pub kept-past : (width : ℕ) → 0 < width → (b : List ℕ) (l : List Id) (k : ℕ) → Wide width l → k ≡ length l → width * k ≤ length b → drop (width * k) (set_down b 0 (joined (take (length b / width) l))) ≡ drop (width * k) b
kept-past width pos b l k w h g =
    let q : ℕ = length b / width in
    let t : List Id = take q l in
    let n : length (joined t) ≡ width * length t = length_joined width t (wide_take width q l w) in
    let m = length-take q l in
    let s : length (joined t) ≡ width * k = n ∙ ap (λ (j : ℕ). width * j) (omega (arith, m, h, fit-ids width (length b) k pos g)) in
    let o : 0 + length (joined t) ≡ width * k = omega (arith, s) in
    ap (drop (width * k)) (set_down-fits b 0 (joined t) (omega (arith, s, g)))
    ∙ drop_at (joined t) (drop (0 + length (joined t)) b) (width * k) s
    ∙ ap (λ (j : ℕ). drop j b) o
