-- The whole file: its parts stand one after another, and the digest of what stands before it ends it. Assumes nothing.
use Rattle.std.specs.Prelude.{Err, None, Ok, Option, Some, Result}
use mathlib.Core.Path.{◌≡◌, sym, ◌∙◌, ap, subst}
use mathlib.Core.Bool.{Bool, cond}
use mathlib.Core.List.{List, [], ◌++◌, append_assoc, append-nil}
use Prim.Native.Nat.{ℕ, ◌+◌, ◌*◌, ◌≤◌, ◌<◌}
use native.Mathlib.Omega.{arith}
use lib.ListN.{length, take, length-append}
use lib.Dec.{eqb, ltb}
use borrow.Author.Tests.{eqb-true, lt-ltb, le-ltb}
use Rattle.hash.specs.Bytes.{set_down, width_of}
use Rattle.hash.specs.declared.Kind.{Kind}
use Rattle.hash.proofs.Tests.{by_cases}
use Rattle.odb.specs.Store.{standing_entries}
use Rattle.commitgraph.specs.Graph.{row_size, hash_version}
use Rattle.commitid.specs.Name.{digest_of}
use Rattle.commitid.proofs.Widths.{length_digest}
use Rattle.graphfile.specs.GraphFile.{Row, flat, words, fan_from, ids_in, edges_in, data_from, ids_end, rows_end, three_chunks, four_chunks, front_of, file_with, graph_file, file_length}
use Rattle.graphfile.proofs.Pieces.{length_flat, length_fan, length_ids}
use Rattle.walk.specs.declared.Refusal.{Refusal}
use Rattle.walk.specs.declared.Refusal.TheVariants.{BufferTooSmall, InputTooLarge, CorruptStore, ShortOutput}
use Rattle.graphplan.specs.StoreRows.{Writable, rows_of}
use Rattle.graphplan.specs.Entries.{Holds}
use Rattle.graphbytes.specs.Words.{front_length}
use Rattle.graphplan.specs.Refusing.{refusal_for, Plans}
use Rattle.graphwrite.specs.Writing.{file_of, length_of, length_answer, or_else, write_refusal, output_after, Bytes, Writes}
use Rattle.graphplan.specs.declared.Plan.{Plan}
use Rattle.graphbytes.proofs.Fill.{then, read_down}
use Rattle.graphbytes.proofs.Lists.{length_words_flat}
use Rattle.graphplan.proofs.Wides.{wide-ids, ids-many, wide-data, data-many}
use Rattle.graphplan.proofs.Planning.{plan_not, rows-planned, number, differ, accepted}

length_front : (v w n e : ℕ) → length (front_of v w n e) ≡ front_length e
unfolding front_of three_chunks four_chunks
length_front v w n e = by_cases (eqb e 0) (λ t. rw t) (λ t. rw t)

pub front_least : (e : ℕ) → (56 ≤ front_length e) × (front_length e ≤ 68)
front_least e = by_cases (eqb e 0) (λ t. rw t (omega arith, omega arith)) (λ t. rw t (omega arith, omega arith))

pub length_is : (w n e : ℕ) → file_length w n e ≡ rows_end w (front_length e) n + 4 * e + w
unfolding file_length
length_is w n e = by_cases (eqb e 0) (λ t. rw t (omega (arith, eqb-true e 0 t))) (λ t. rw t)

six : (a b c d e f : List ℕ) → ((((a ++ b) ++ c) ++ d) ++ e) ++ f ≡ a ++ (b ++ (c ++ (d ++ (e ++ f))))
six a b c d e f =
    append_assoc (((a ++ b) ++ c) ++ d) e f ∙ append_assoc ((a ++ b) ++ c) d (e ++ f) ∙ append_assoc (a ++ b) c (d ++ (e ++ f)) ∙ append_assoc a b (c ++ (d ++ (e ++ f)))

module _ (kind : Kind) (b : List ℕ) (n e : ℕ) (W : Writable (width_of kind) b n) (ee : e ≡ length (edges_in (rows_of (width_of kind) b))) where
  abbrev w : ℕ
  w = width_of kind

  abbrev v : ℕ
  v = hash_version kind

  abbrev rs : List Row
  rs = rows_of w b

  abbrev T : List ℕ
  T = front_of v w n e

  abbrev F : List ℕ
  F = flat (words (fan_from rs 0 256))

  abbrev I : List ℕ
  I = flat (ids_in rs)

  abbrev D : List ℕ
  D = flat (data_from 0 rs)

  abbrev E : List ℕ
  E = flat (words (edges_in rs))

  F-long : length F ≡ 1024
  F-long = length_words_flat (fan_from rs 0 256) ∙ ap (λ (x : ℕ). 4 * x) (length_fan rs 0 256)

  I-long : length I ≡ w * n
  I-long = length_flat w (ids_in rs) (wide-ids w b n W) ∙ ap (λ (x : ℕ). w * x) (ids-many w b n W)

  D-long : length D ≡ row_size w * n
  D-long = length_flat (row_size w) (data_from 0 rs) (wide-data w b n W) ∙ ap (λ (x : ℕ). row_size w * x) (data-many w b n W)

  E-long : length E ≡ 4 * e
  E-long = length_words_flat (edges_in rs) ∙ ap (λ (x : ℕ). 4 * x) (sym ee)

  T-long : length T ≡ front_length e
  T-long = length_front v w n e

  TF-long : length (T ++ F) ≡ front_length e + 1024
  TF-long = omega (arith, length-append T F, T-long, F-long)

  TFI-long : length ((T ++ F) ++ I) ≡ ids_end w (front_length e) n
  TFI-long = omega (arith, length-append (T ++ F) I, TF-long, I-long)

  TFID-long : length (((T ++ F) ++ I) ++ D) ≡ rows_end w (front_length e) n
  TFID-long = omega (arith, length-append ((T ++ F) ++ I) D, TFI-long, D-long)

  X-long : length ((((T ++ F) ++ I) ++ D) ++ E) ≡ rows_end w (front_length e) n + 4 * e
  X-long = omega (arith, length-append (((T ++ F) ++ I) ++ D) E, TFID-long, E-long)

  rows-many : length rs ≡ n
  rows-many = sym (length_ids rs) ∙ ids-many w b n W

  front_same : (r : List ℕ) → T ++ r ≡ front_of v w (length rs) (length (edges_in rs)) ++ r
  front_same r = ap (λ (x : ℕ). front_of v w x e ++ r) (sym rows-many) ∙ ap (λ (x : ℕ). front_of v w (length rs) x ++ r) ee

  ends : (y : List ℕ) → ((((T ++ F) ++ I) ++ D) ++ E) ++ y ≡ file_with v w rs y
  unfolding file_with
  ends y = six T F I D E y ∙ front_same (F ++ (I ++ (D ++ (E ++ y))))

  -- what the digest is made of
  X-is : (((T ++ F) ++ I) ++ D) ++ E ≡ file_with v w rs []
  X-is = sym (append-nil ((((T ++ F) ++ I) ++ D) ++ E)) ∙ ends []

  pub whole_long : length (file_of kind b) ≡ file_length w n e
  unfolding file_of graph_file
  whole_long =
      let d = digest_of kind (file_with v w rs []) in
      omega (arith, ap length (ends d), length-append ((((T ++ F) ++ I) ++ D) ++ E) d, X-long, length_digest kind (file_with v w rs []), length_is w n e)

  module _ (o : List ℕ) (room : file_length w n e ≤ length o) where
    all : rows_end w (front_length e) n + 4 * e + w ≤ length o
    all = subst (λ (x : ℕ). x ≤ length o) (length_is w n e) room

    pub file-laid : {s₁ s₂ s₃ s₄ s₅ s₆ : List ℕ} (f i r t z : ℕ) → s₁ ≡ set_down o 0 T → s₂ ≡ set_down s₁ f F → s₃ ≡ set_down s₂ i I → s₄ ≡ set_down s₃ r D → s₅ ≡ set_down s₄ t E
        → s₆ ≡ set_down s₅ z (digest_of kind (take z s₅)) → f ≡ front_length e → i ≡ front_length e + 1024 → r ≡ ids_end w (front_length e) n → t ≡ rows_end w (front_length e) n
        → z ≡ rows_end w (front_length e) n + 4 * e → s₆ ≡ set_down o 0 (file_of kind b)
    unfolding file_of graph_file
    file-laid {s₁} {s₂} {s₃} {s₄} {s₅} {s₆} f i r t z e₁ e₂ e₃ e₄ e₅ e₆ ef ei er et ez =
        let X = (((T ++ F) ++ I) ++ D) ++ E in
        let S = file_with v w rs [] in
        let p₂ : s₂ ≡ set_down o 0 (T ++ F) = then o 0 f T F e₁ e₂ (omega (arith, T-long)) (omega (arith, all, F-long)) in
        let p₃ : s₃ ≡ set_down o 0 ((T ++ F) ++ I) = then o 0 i (T ++ F) I p₂ e₃ (omega (arith, TF-long)) (omega (arith, all, I-long)) in
        let p₄ : s₄ ≡ set_down o 0 (((T ++ F) ++ I) ++ D) = then o 0 r ((T ++ F) ++ I) D p₃ e₄ (omega (arith, TFI-long)) (omega (arith, all, D-long)) in
        let p₅ : s₅ ≡ set_down o 0 X = then o 0 t (((T ++ F) ++ I) ++ D) E p₄ e₅ (omega (arith, TFID-long)) (omega (arith, all, E-long)) in
        let d : digest_of kind (take z s₅) ≡ digest_of kind S = ap (digest_of kind) (ap (take z) p₅ ∙ read_down o X z (X-long ∙ sym ez) (omega (arith, all)) ∙ X-is) in
        then o 0 z X (digest_of kind S) p₅ (e₆ ∙ ap (set_down s₅ z) d) (omega (arith, X-long)) (omega (arith, all, length_digest kind S))
        ∙ ap (set_down o 0) (ends (digest_of kind S))

-- ---- from a plan to what is written

module _ (kind : Kind) (b s s' : List ℕ) (r : Result Plan Refusal) (P : Plans (width_of kind) b s s' r) where
  pub writes-not : (o : List ℕ) (q : Refusal) → r ≡ Err q → Bytes b → Writes kind b s s' o o (Err q)
  unfolding write_refusal
  writes-not o q e S =
      let w = width_of kind in
      let k : refusal_for w b (length s) ≡ Some q = plan_not w b (refusal_for w b (length s)) q (sym e ∙ P.answer) in
      let z : write_refusal w b (length s) (length o) ≡ Some q = ap (λ (x : Option Refusal). or_else x (cond (ltb (length o) (length_of w b)) (Some ShortOutput) None)) k in
      record {
        lent = S;
        answer = ap (length_answer w b) (sym z);
        output = ap (output_after kind b o) (sym z);
        spared = record {
          large = λ y. P.spared.large (k ∙ sym z ∙ y);
          torn = λ y. P.spared.torn (k ∙ sym z ∙ y);
          short = λ y. P.spared.short (k ∙ sym z ∙ y);
        };
      }

  module _ (q : Plan) (l : ℕ) (h : r ≡ Ok q) (el : l ≡ file_length (width_of kind) q.rows q.edges) where
    length-told : l ≡ length_of (width_of kind) b
    unfolding length_of
    length-told =
        let p = rows-planned (width_of kind) b s s' r P q h in
        el ∙ ap (λ (x : ℕ). file_length (width_of kind) x q.edges) p.rows ∙ ap (file_length (width_of kind) (standing_entries (width_of kind) b)) p.edges

    last : (o : List ℕ) → write_refusal (width_of kind) b (length s) (length o) ≡ cond (ltb (length o) l) (Some ShortOutput) None
    unfolding write_refusal
    last o =
        let w = width_of kind in
        let p = rows-planned w b s s' r P q h in
        ap (λ (x : Option Refusal). or_else x (cond (ltb (length o) (length_of w b)) (Some ShortOutput) None)) p.none_said
        ∙ ap (λ (x : ℕ). cond (ltb (length o) x) (Some ShortOutput) None) (sym length-told)

    pub writes_short : (o : List ℕ) → length o < l → Bytes b → Writes kind b s s' o o (Err ShortOutput)
    unfolding number
    writes_short o d S =
        let w = width_of kind in
        let z : write_refusal w b (length s) (length o) ≡ Some ShortOutput = last o ∙ ap (λ (t : Bool). cond t (Some ShortOutput) None) (lt-ltb (length o) l d) in
        record {
          lent = S;
          answer = ap (length_answer w b) (sym z);
          output = ap (output_after kind b o) (sym z);
          spared = record {
            large = λ y. differ (Some ShortOutput) (Some InputTooLarge) (λ q. omega arith) (sym z ∙ y);
            torn = λ y. differ (Some ShortOutput) (Some CorruptStore) (λ q. omega arith) (sym z ∙ y);
            short = λ y. differ (Some ShortOutput) (Some BufferTooSmall) (λ q. omega arith) (sym z ∙ y);
          };
        }

    pub writes-file : (o o' : List ℕ) → l ≤ length o → o' ≡ set_down o 0 (file_of kind b) → Bytes b → Writes kind b s s' o o' (Ok l)
    unfolding number
    writes-file o o' d x S =
        let w = width_of kind in
        let z : write_refusal w b (length s) (length o) ≡ None = last o ∙ ap (λ (t : Bool). cond t (Some ShortOutput) None) (le-ltb (length o) l d) in
        record {
          lent = S;
          answer = ap Ok length-told ∙ ap (length_answer w b) (sym z);
          output = x ∙ ap (output_after kind b o) (sym z);
          spared = record {
            large = λ y. differ None (Some InputTooLarge) (λ q. omega arith) (sym z ∙ y);
            torn = λ y. differ None (Some CorruptStore) (λ q. omega arith) (sym z ∙ y);
            short = λ y. differ None (Some BufferTooSmall) (λ q. omega arith) (sym z ∙ y);
          };
        }

    -- what the file is written from
    pub file-from : (Writable (width_of kind) b q.rows) × (Holds (width_of kind) b s' q.rows) × (q.edges ≡ length (edges_in (rows_of (width_of kind) b)))
    file-from =
        let w = width_of kind in
        let p = rows-planned w b s s' r P q h in (
          subst (Writable w b) (sym p.rows) (accepted w b (length s) p.none_said),
          subst (Holds w b s') (sym p.rows) (P.levels p.none_said),
          p.edges,
        )
