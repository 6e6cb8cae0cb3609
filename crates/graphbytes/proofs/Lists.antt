-- How a row and EDGE name parents, by how many there are; and the lists of over two parents, one after another. Assumes nothing.
use mathlib.Core.Path.{◌≡◌, refl, sym, ◌∙◌, ap}
use mathlib.Core.Bool.{Bool, cond}
use mathlib.Core.List.{List, [], ◌∷◌, ◌++◌, append_assoc, append-nil}
use Prim.Native.Nat.{ℕ, zero, suc, ◌+◌, ◌*◌, ◌-◌, ◌/◌, ◌%◌, ◌≤◌, ◌<◌}
use native.Mathlib.Omega.{arith}
use native.Mathlib.Numerals.{add-one}
use lib.ListN.{length, get_or, length-append}
use lib.Dec.{eqb}
use borrow.Author.Tests.{eq-eqb, ne_eqb, eqb-true, eqb-false}
use Rattle.hash.specs.Bytes.{set_down}
use Rattle.hash.proofs.Tests.{by_cases}
use Rattle.commitgraph.specs.Graph.{row_size, no_parent, top_bit}
use Rattle.graphfile.specs.GraphFile.{Row, row_at, u32, flat, words, marked, first_of, second_of, edges_of, edges_in, row_bytes}
use Rattle.graphfile.proofs.Pieces.{edges_before}
use Rattle.graphfile.proofs.Parents.{length_marked}
use Rattle.graphbytes.specs.Words.{four_words}
use Rattle.graphbytes.proofs.Fill.{then, none-down}

-- ---- the entries of EDGE before a row

pub edges_before_next : (rs : List Row) (k : ℕ) → k < length rs → edges_before rs (suc k) ≡ edges_before rs k + length (edges_of (row_at rs k).parents)
unfolding edges_before row_at
edges_before_next [] k h = absurd (omega arith)
edges_before_next (r ∷ rs) zero h = first rs
  where
    first : (qs : List Row) → length (edges_of r.parents) + edges_before qs 0 ≡ 0 + length (edges_of r.parents)
    first [] = omega arith
    first (q ∷ qs) = omega arith
edges_before_next (r ∷ rs) (suc k) h = omega (arith, edges_before_next rs k (omega arith))

pub edges_before_all : (rs : List Row) → edges_before rs (length rs) ≡ length (edges_in rs)
unfolding edges_before edges_in
edges_before_all [] = refl
edges_before_all (r ∷ rs) = omega (arith, edges_before_all rs, length-append (edges_of r.parents) (edges_in rs))

pub edges_before_none : (rs : List Row) → edges_before rs 0 ≡ 0
unfolding edges_before
edges_before_none [] = refl
edges_before_none (r ∷ rs) = refl

-- ---- the two fields of a row

pub first-none : (ps : List ℕ) → length ps ≡ 0 → no_parent ≡ first_of ps
unfolding first_of
first-none [] h = refl
first-none (a ∷ ps) h = absurd (omega arith)

pub first_some : (ps : List ℕ) → 0 < length ps → get_or ps 0 0 ≡ first_of ps
unfolding first_of
first_some [] h = absurd (omega arith)
first_some (a ∷ ps) h = refl

pub second_none : (e : ℕ) (ps : List ℕ) → length ps < 2 → no_parent ≡ second_of e ps
unfolding second_of
second_none e [] h = refl
second_none e (a ∷ []) h = refl
second_none e (a ∷ (b ∷ [])) h = absurd (omega arith)
second_none e (a ∷ (b ∷ (c ∷ ps))) h = absurd (omega arith)

pub second-one : (e : ℕ) (ps : List ℕ) → length ps ≡ 2 → get_or ps 1 0 ≡ second_of e ps
unfolding second_of
second-one e [] h = absurd (omega arith)
second-one e (a ∷ []) h = absurd (omega arith)
second-one e (a ∷ (b ∷ [])) h = refl
second-one e (a ∷ (b ∷ (c ∷ ps))) h = absurd (omega arith)

pub second-list : (e : ℕ) (ps : List ℕ) → 2 < length ps → top_bit + e ≡ second_of e ps
unfolding second_of
second-list e [] h = absurd (omega arith)
second-list e (a ∷ []) h = absurd (omega arith)
second-list e (a ∷ (b ∷ [])) h = absurd (omega arith)
second-list e (a ∷ (b ∷ (c ∷ ps))) h = refl

-- ---- a row set down

pub row_laid : (o : List ℕ) {o₁ o₂ : List ℕ} (w w' i e a b l s : ℕ) (r : Row) → length r.tree ≡ w → i + row_size w ≤ length o → o₁ ≡ set_down o i r.tree
    → o₂ ≡ set_down o₁ (i + w') (four_words a b (l * 4 + s / 4294967296) (s % 4294967296)) → w' ≡ w → a ≡ first_of r.parents → b ≡ second_of e r.parents → l ≡ r.level → s ≡ r.seconds
    → o₂ ≡ set_down o i (row_bytes e r)
unfolding row_bytes
row_laid o w w' i e a b l s r t h e₁ e₂ ew ea eb el es =
    then o i (i + w') r.tree (four_words a b (l * 4 + s / 4294967296) (s % 4294967296)) e₁ e₂ (omega arith) (omega arith)
    ∙ ap (λ (x : ℕ). set_down o i (r.tree ++ four_words x b (l * 4 + s / 4294967296) (s % 4294967296))) ea
    ∙ ap (λ (x : ℕ). set_down o i (r.tree ++ four_words (first_of r.parents) x (l * 4 + s / 4294967296) (s % 4294967296))) eb
    ∙ ap (λ (x : ℕ). set_down o i (r.tree ++ four_words (first_of r.parents) (second_of e r.parents) (x * 4 + s / 4294967296) (s % 4294967296))) el
    ∙ ap (λ (x : ℕ). set_down o i (r.tree ++ four_words (first_of r.parents) (second_of e r.parents) (r.level * 4 + x / 4294967296) (x % 4294967296))) es

-- ---- EDGE

eqb_suc : (a b : ℕ) → eqb (suc a) (suc b) ≡ eqb a b
eqb_suc a b =
    by_cases (eqb a b)
    (λ e. eq-eqb (suc a) (suc b) (ap suc (eqb-true a b e)) ∙ sym e)
    (λ e. ne_eqb (suc a) (suc b) (λ d. eqb-false a b e (let z : a ≡ b = omega arith in z)) ∙ sym e)

marked-at : (qs : List ℕ) (i : ℕ) → i < length qs → get_or (marked qs) i 0 ≡ cond (eqb (suc i) (length qs)) (top_bit + get_or qs i 0) (get_or qs i 0)
unfolding marked
marked-at [] i h = absurd (omega arith)
marked-at (q ∷ []) zero h = refl
marked-at (q ∷ []) (suc i) h = absurd (omega arith)
marked-at (q ∷ (p ∷ ps)) zero h = sym (ap (λ (t : Bool). cond t (top_bit + q) q) (ne_eqb 1 (suc (suc (length ps))) (λ e. omega arith)))
marked-at (q ∷ (p ∷ ps)) (suc i) h =
    marked-at (p ∷ ps) i (omega arith)
    ∙ sym (ap (λ (t : Bool). cond t (top_bit + get_or (p ∷ ps) i 0) (get_or (p ∷ ps) i 0)) (eqb_suc (suc i) (suc (length ps))))

edge_at : (ps : List ℕ) (j : ℕ) → 2 < length ps → suc j < length ps → get_or (edges_of ps) j 0 ≡ cond (eqb (suc (suc j)) (length ps)) (top_bit + get_or ps (suc j) 0) (get_or ps (suc j) 0)
unfolding edges_of
edge_at [] j h l = absurd (omega arith)
edge_at (a ∷ []) j h l = absurd (omega arith)
edge_at (a ∷ (b ∷ [])) j h l = absurd (omega arith)
edge_at (a ∷ (b ∷ (c ∷ ps))) j h l =
    marked-at (b ∷ (c ∷ ps)) j (omega arith)
    ∙ sym (ap (λ (t : Bool). cond t (top_bit + get_or (b ∷ (c ∷ ps)) j 0) (get_or (b ∷ (c ∷ ps)) j 0)) (eqb_suc (suc j) (suc (suc (length ps)))))

edge_from : (ps : List ℕ) (j : ℕ) → 2 < length ps → 1 ≤ j → j < length ps → get_or (edges_of ps) (j - 1) 0 ≡ cond (eqb (j + 1) (length ps)) (top_bit + get_or ps j 0) (get_or ps j 0)
edge_from ps zero h a l = absurd (omega arith)
edge_from ps (suc j) h a l =
    ap (λ (i : ℕ). get_or (edges_of ps) i 0) (let z : suc j - 1 ≡ j = omega arith in z)
    ∙ edge_at ps j h l
    ∙ ap (λ (i : ℕ). cond (eqb i (length ps)) (top_bit + get_or ps (suc j) 0) (get_or ps (suc j) 0)) (let z : suc (suc j) ≡ suc j + 1 = omega arith in z)

pub edge_last : (ps : List ℕ) (j v : ℕ) → 2 < length ps → 1 ≤ j → j < length ps → j + 1 ≡ length ps → v ≡ get_or ps j 0 → top_bit + v ≡ get_or (edges_of ps) (j - 1) 0
edge_last ps j v h a l e d =
    ap (λ (x : ℕ). top_bit + x) d ∙ sym (edge_from ps j h a l ∙ ap (λ (t : Bool). cond t (top_bit + get_or ps j 0) (get_or ps j 0)) (eq-eqb (j + 1) (length ps) e))

pub edge_more : (ps : List ℕ) (j v : ℕ) → 2 < length ps → 1 ≤ j → j < length ps → (j + 1 ≡ length ps → ⊥) → v ≡ get_or ps j 0 → v ≡ get_or (edges_of ps) (j - 1) 0
edge_more ps j v h a l e d =
    d ∙ sym (edge_from ps j h a l ∙ ap (λ (t : Bool). cond t (top_bit + get_or ps j 0) (get_or ps j 0)) (ne_eqb (j + 1) (length ps) e))

-- the entries of the first k rows
unfoldable pub edges_to : List Row → ℕ → List ℕ
edges_to [] k = []
edges_to (r ∷ rs) zero = []
edges_to (r ∷ rs) (suc k) = edges_of r.parents ++ edges_to rs k

pub edges_to_none : (rs : List Row) → edges_to rs 0 ≡ []
unfolding edges_to
edges_to_none [] = refl
edges_to_none (r ∷ rs) = refl

edges_to_next : (rs : List Row) (k : ℕ) → k < length rs → edges_to rs (suc k) ≡ edges_to rs k ++ edges_of (row_at rs k).parents
unfolding edges_to row_at
edges_to_next [] k h = absurd (omega arith)
edges_to_next (r ∷ rs) zero h = ap (λ (x : List ℕ). edges_of r.parents ++ x) (edges_to_none rs) ∙ append-nil (edges_of r.parents)
edges_to_next (r ∷ rs) (suc k) h =
    ap (λ (x : List ℕ). edges_of r.parents ++ x) (edges_to_next rs k (omega arith)) ∙ sym (append_assoc (edges_of r.parents) (edges_to rs k) (edges_of (row_at rs k).parents))

pub edges_to_all : (rs : List Row) → edges_to rs (length rs) ≡ edges_in rs
unfolding edges_to edges_in
edges_to_all [] = refl
edges_to_all (r ∷ rs) = ap (λ (x : List ℕ). edges_of r.parents ++ x) (edges_to_all rs)

flat_words_append : (xs ys : List ℕ) → flat (words (xs ++ ys)) ≡ flat (words xs) ++ flat (words ys)
unfolding flat words
flat_words_append [] ys = refl
flat_words_append (x ∷ xs) ys = ap (λ (a : List ℕ). u32 x ++ a) (flat_words_append xs ys)

pub length_words_flat : (xs : List ℕ) → length (flat (words xs)) ≡ 4 * length xs
unfolding flat words
length_words_flat [] = refl
length_words_flat (x ∷ xs) = omega (arith, length_words_flat xs)

length_to : (rs : List Row) (k : ℕ) → k ≤ length rs → length (edges_to rs k) ≡ edges_before rs k
unfolding edges_to edges_before
length_to [] k h = refl
length_to (r ∷ rs) zero h = refl
length_to (r ∷ rs) (suc k) h = length-append (edges_of r.parents) (edges_to rs k) ∙ ap (λ (x : ℕ). length (edges_of r.parents) + x) (length_to rs k (omega arith))

-- the lists of the first k rows stand at a place
pub record Listed (o s : List ℕ) (from : ℕ) (rs : List Row) (k : ℕ) : Type 0 where
  pub is : s ≡ set_down o from (flat (words (edges_to rs k)))

pub listed-none : (o : List ℕ) (from : ℕ) (rs : List Row) → from ≤ length o → Listed o o from rs 0
unfolding flat words
listed-none o from rs h = record { is = sym (ap (λ (x : List ℕ). set_down o from (flat (words x))) (edges_to_none rs) ∙ none-down o from h) }

before-most : (rs : List Row) (k : ℕ) → k ≤ length rs → edges_before rs k ≤ length (edges_in rs)
unfolding edges_before edges_in
before-most [] k h = omega arith
before-most (r ∷ rs) zero h = omega arith
before-most (r ∷ rs) (suc k) h = omega (arith, before-most rs k (omega arith), length-append (edges_of r.parents) (edges_in rs))

pub before_next_most : (rs : List Row) (k : ℕ) → k < length rs → edges_before rs k + length (edges_of (row_at rs k).parents) ≤ length (edges_in rs)
before_next_most rs k h = omega (arith, edges_before_next rs k h, before-most rs (suc k) (omega arith))

pub listed_next : {o s s' : List ℕ} {from : ℕ} {rs : List Row} {k : ℕ} (p : ℕ) (es : List ℕ) → k < length rs → from + 4 * length (edges_in rs) ≤ length o → Listed o s from rs k
    → s' ≡ set_down s p (flat (words es)) → p ≡ from + 4 * edges_before rs k → es ≡ edges_of (row_at rs k).parents → Listed o s' from rs (k + 1)
listed_next {o} {s} {s'} {from} {rs} {k} p es h room l e ep ee =
    let x = edges_to rs k in
    let y = edges_of (row_at rs k).parents in
    let m = length_words_flat x in
    let n = length_words_flat y in
    let t = length_to rs k (omega arith) in
    record {
      is = then o from p (flat (words x)) (flat (words y)) l.is (e ∙ ap (λ (z : List ℕ). set_down s p (flat (words z))) ee) (omega (arith, m, t)) (omega (arith, n, before_next_most rs k h))
          ∙ ap (set_down o from) (sym (flat_words_append x y))
          ∙ ap (λ (z : List ℕ). set_down o from (flat (words z))) (sym (edges_to_next rs k h))
          ∙ ap (λ (i : ℕ). set_down o from (flat (words (edges_to rs i)))) (sym (add-one k));
    }

pub listed-all : {o s : List ℕ} {from : ℕ} {rs : List Row} {k : ℕ} → Listed o s from rs k → k ≡ length rs → s ≡ set_down o from (flat (words (edges_in rs)))
listed-all {o} {s} {from} {rs} {k} l e =
    l.is ∙ ap (λ (i : ℕ). set_down o from (flat (words (edges_to rs i)))) e ∙ ap (λ (x : List ℕ). set_down o from (flat (words x))) (edges_to_all rs)

few-edges : (ps : List ℕ) → length ps ≤ 2 → edges_of ps ≡ []
unfolding edges_of
few-edges [] h = refl
few-edges (a ∷ []) h = refl
few-edges (a ∷ (b ∷ [])) h = refl
few-edges (a ∷ (b ∷ (c ∷ ps))) h = absurd (omega arith)

pub edges_none : (o : List ℕ) (p : ℕ) (ps : List ℕ) → length ps ≤ 2 → p ≤ length o → (o ≡ set_down o p (flat (words (edges_of ps)))) × (p ≡ p + 4 * length (edges_of ps))
unfolding flat words
edges_none o p ps h l = (
  sym (ap (λ (x : List ℕ). set_down o p (flat (words x))) (few-edges ps h) ∙ none-down o p l),
  omega (arith, ap length (few-edges ps h)),
)

pub edges-long : (ps : List ℕ) → 2 < length ps → length (edges_of ps) ≡ length ps - 1
unfolding edges_of
edges-long [] h = absurd (omega arith)
edges-long (a ∷ []) h = absurd (omega arith)
edges-long (a ∷ (b ∷ [])) h = absurd (omega arith)
edges-long (a ∷ (b ∷ (c ∷ ps))) h = length_marked (b ∷ (c ∷ ps)) ∙ (let z : suc (suc (length ps)) ≡ suc (suc (suc (length ps))) - 1 = omega arith in z)
