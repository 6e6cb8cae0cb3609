-- Document 01's sentences on what is printed, as theorems: its example and its history of eight commits by computation, the inputs that are
-- refused by the opening's tests in order, and that the text of an accepted opening ends in `end`, as call P + 2 at latest says end.
-- Assumes nothing.
use Rattle.std.specs.Prelude.{Option, Some}
use Prim.Native.Nat.{ℕ, ◌+◌, ◌%◌, ◌≤◌, ◌<◌}
use mathlib.Core.Path.{◌≡◌, refl, sym, ◌∙◌, ap}
use mathlib.Core.Bool.{true, false, cond, true≢false}
use mathlib.Core.List.{List, [], ◌∷◌, ◌++◌, append_assoc, append-nil}
use native.Mathlib.Omega.{arith}
use lib.ListN.{length, replicate, length-take, length-drop, drop_of_length-le}
use lib.Dec.{ltb}
use borrow.Author.Tests.{le-ltb, le-leb, lt-leb, ne_eqb, eq-eqb}
use Rattle.hash.specs.Bytes.{id_bytes, bytes_all}
use Rattle.hash.proofs.Tests.{by_cases, and_of}
use Rattle.idlist.specs.IdList.{id_list_all}
use Rattle.object.specs.Header.{header_all}
use Rattle.odb.specs.Store.{store_is_ok, store_all}
use Rattle.commitgraph.specs.Graph.{graph_all}
use Rattle.walk.specs.declared.Refusal.{Refusal}
use Rattle.walk.specs.declared.Refusal.TheVariants.{InputTooLarge, PartialId, CorruptStore}
use Rattle.walk.specs.State.{State}
use Rattle.walk.specs.Opening.{Lengths, width_in, P, room_for, sizes_ok, whole_ids, refusal, open_or, opened, open_walk}
use Rattle.walk.specs.Next.{Kind, end, refused, handed, Answer}
use Rattle.walk.specs.Calls.{answer_at_call, answers, walk_all}
use Rattle.walk.specs.Sums.{EndsBy, EndLaw}
use Rattle.walk.specs.Runs.{id_for, store_of, sample, says, sample_wide}
use Rattle.walk.proofs.Calls.{answers_at}
use Rattle.walk.proofs.Whole.{end_law}
use Rattle.traverse.proofs.Numbered.{length_up_to}
use Rattle.swatch.specs.Text.{hex_digit, hex, decimal_in, decimal, commit_line, refusal_line, end_line, line_of, is_end, lines_of, most_bytes, tips_in, store_in, input_in, text_of, text}
use Rattle.swatch.proofs.Listing.{true_open}

-- the memory that the program lends
unfoldable pub program_lent : Lengths
program_lent = record { names = 27320; marks = 1366; levels = 1366; times = 1366; line = 6830; parents = 5120 }

pub record Printed : Type 0 where
  -- "Tip of 20 bytes 0x11, its one body a tree of zeros, author and committer `A <a> 5 +0000`, blank line (92 bytes; book 124): prints 40
  -- ones, space, `0` (parents), newline, `end`, newline"
  pub example : text (id_for 17 ++ store_of (record { name = 17; time = 5; from = [] } ∷ [])) program_lent ≡ replicate 40 49 ++ (32 ∷ 48 ∷ 10 ∷ end_line)
  -- "Tip 8, no graph … breadth 8 6 7 5 4 3 2 1"
  pub history : text (id_for 8 ++ sample) program_lent
      ≡ commit_line (id_for 8) 2 ++ (commit_line (id_for 6) 1 ++ (commit_line (id_for 7) 1 ++ (commit_line (id_for 5) 1 ++ (commit_line (id_for 4) 1
      ++ (commit_line (id_for 3) 1 ++ (commit_line (id_for 2) 1 ++ (commit_line (id_for 1) 0 ++ end_line)))))))
  -- "no input prints only `end`"
  pub no-input : text [] program_lent ≡ end_line
  -- "Under 20 bytes, all are the tip list": a ragged one, whatever memory is lent
  pub ragged : (b : List ℕ) (l : Lengths) → 0 < length b → length b < id_bytes → text b l ≡ refusal_line PartialId
  -- exactly 20 bytes are a tip and no book
  pub no_store : (b : List ℕ) (l : Lengths) → length b ≡ id_bytes → text b l ≡ refusal_line CorruptStore
  -- "over 65,536 prints `! 2`"
  pub too_large : (b : List ℕ) (l : Lengths) → most_bytes < length b → text b l ≡ refusal_line InputTooLarge
  -- at the end `end`, newline
  pub ends : (b : List ℕ) (l : Lengths) (st : State) → length b ≤ most_bytes → open_walk (input_in b) (room_for (input_in b) l) ≡ opened st
      → (front : List ℕ) × (text b l ≡ front ++ end_line)

-- ---- the last line

kind-ends : (k : Kind) (n : ℕ) (rest : List ℕ) → (is_end k ≡ false → (front : List ℕ) × (rest ≡ front ++ end_line)) → (front : List ℕ) × (line_of k n ++ cond (is_end k) [] rest ≡ front ++ end_line)
unfolding line_of
kind-ends end n rest h = ([], append-nil end_line)
kind-ends (refused r) n rest h = let f = h refl in (refusal_line r ++ f.0, ap (λ (l : List ℕ). refusal_line r ++ l) f.1 ∙ sym (append_assoc (refusal_line r) f.0 end_line))
kind-ends (handed x g t) n rest h = let f = h refl in (commit_line x n ++ f.0, ap (λ (l : List ℕ). commit_line x n ++ l) f.1 ∙ sym (append_assoc (commit_line x n) f.0 end_line))

lines_end : (n : ℕ) (l : List Answer) → EndsBy n l → n < length l → (front : List ℕ) × (lines_of l ≡ front ++ end_line)
unfolding lines_of
lines_end n [] e h = absurd (omega arith)
lines_end n (a ∷ l) (EndsBy.before {n = m} e) h = kind-ends a.kind (length a.parents) (lines_of l) (λ z. lines_end m l e (omega arith))
lines_end n (a ∷ l) (EndsBy.over k e) h = kind-ends a.kind (length a.parents) (lines_of l) (λ z. let y : is_end a.kind ≡ true = ap is_end k in absurd (true≢false (sym y ∙ z)))

-- an input that is read
text-read : (b : List ℕ) (l : Lengths) → length b ≤ most_bytes → text b l ≡ text_of (input_in b) (open_walk (input_in b) (room_for (input_in b) l))
unfolding text
text-read b l h = simp (le-leb (length b) most_bytes h)

text-ends : (b : List ℕ) (l : Lengths) (st : State) → length b ≤ most_bytes → open_walk (input_in b) (room_for (input_in b) l) ≡ opened st → (front : List ℕ) × (text b l ≡ front ++ end_line)
unfolding EndLaw text_of
text-ends b l st h e =
    let i = input_in b in
    let n : length (answers i (P i + 2)) ≡ P i + 2 = ap length (answers_at i (P i + 2)) ∙ length_up_to (answer_at_call i) (P i + 2) in
    let f = lines_end (P i + 1) (answers i (P i + 2)) (end_law i st (true_open i (room_for i l) st e) (P i + 2)) (omega (arith, n)) in
    (f.0, text-read b l h ∙ ap (text_of i) e ∙ f.1)

-- ---- refused inputs

text-refused : (b : List ℕ) (l : Lengths) (r : Refusal) → length b ≤ most_bytes → refusal (input_in b) ≡ Some r → text b l ≡ refusal_line r
unfolding open_walk open_or text_of
text-refused b l r h e = text-read b l h ∙ ap (λ (o : Option Refusal). text_of (input_in b) (open_or (input_in b) (room_for (input_in b) l) o)) e

tips-long : (b : List ℕ) → length b ≤ id_bytes → length (tips_in b) ≡ length b
unfolding tips_in
tips-long b h = simp length-take (omega arith)

-- none of the first 20 bytes makes a list or a store too large
sizes_fine : (b : List ℕ) → length b ≤ id_bytes → sizes_ok (input_in b) ≡ true
unfolding sizes_ok input_in store_in
sizes_fine b h =
    and_of (and_of (and_of (and_of (le-leb (length (store_in b)) 16777216 store-short) refl) (le-leb (length (tips_in b)) 20480 (omega (arith, tips-long b h)))) refl) refl
  where
    store-short : length (store_in b) ≤ 16777216
    store-short = by_cases (ltb (length b) id_bytes) (λ a. rw a (omega arith)) (λ a. rw a (simp length-drop (omega arith)))

not-whole : (b : List ℕ) → 0 < length b → length b < id_bytes → whole_ids (input_in b) ≡ false
unfolding whole_ids input_in
not-whole b h g = rw (ne_eqb (length (tips_in b) % id_bytes) 0 (λ e. absurd (omega (arith, e, tips-long b (omega arith)))))

ragged_list : (b : List ℕ) → 0 < length b → length b < id_bytes → refusal (input_in b) ≡ Some PartialId
unfolding refusal
ragged_list b h g = rw (sizes_fine b (omega arith), not-whole b h g)

whole : (b : List ℕ) → length b ≡ id_bytes → whole_ids (input_in b) ≡ true
unfolding whole_ids input_in
whole b h = rw (eq-eqb (length (tips_in b) % id_bytes) 0 (omega (arith, tips-long b (omega arith))))

no_bytes : (b : List ℕ) → length b ≡ id_bytes → store_is_ok (width_in (input_in b)) (input_in b).store ≡ false
unfolding input_in store_in store_all
no_bytes b h = rw (le-ltb (length b) id_bytes (omega arith), drop_of_length-le b {i = id_bytes} (omega arith))

torn-store : (b : List ℕ) → length b ≡ id_bytes → refusal (input_in b) ≡ Some CorruptStore
unfolding refusal
torn-store b h = rw (sizes_fine b (omega arith), whole b h, no_bytes b h)

-- ---- all

pub printed : Printed
unfolding program_lent says sample_wide bytes_all id_list_all header_all store_all graph_all walk_all hex_digit hex decimal_in decimal commit_line refusal_line end_line line_of lines_of tips_in store_in input_in text_of text
printed = record {
  example = refl;
  history = refl;
  no-input = refl;
  ragged = λ b l h g. text-refused b l PartialId (omega arith) (ragged_list b h g);
  no_store = λ b l h. text-refused b l CorruptStore (omega arith) (torn-store b h);
  too_large = λ b l h. simp (lt-leb (length b) most_bytes h);
  ends = text-ends;
}
