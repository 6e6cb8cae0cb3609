-- The text never has more than 65,536 bytes: a line has at most 45, there are at most P + 2 lines, and P is at most 1,365. Assumes nothing.
use Prim.Native.Nat.{ℕ, ◌+◌, ◌*◌, ◌≤◌, ◌<◌}
use mathlib.Core.Path.{◌≡◌, refl, ◌∙◌, ap}
use mathlib.Core.Bool.{Bool, true, false, cond}
use mathlib.Core.List.Memᴰ
use mathlib.Core.List.{List, [], ◌∷◌}
use native.Mathlib.Omega.{arith}
use lib.ListN.{length, take, length-append, length-take, length-drop}
use lib.Dec.{ltb, leb}
use borrow.Author.Tests.{ltb-true, ltb-false, leb-true}
use Rattle.hash.specs.Bytes.{Id, id_bytes}
use Rattle.hash.proofs.Tests.{by_cases}
use Rattle.commitgraph.specs.Graph.{graph_count}
use Rattle.walk.specs.declared.Refusal.{Refusal}
use Rattle.walk.specs.declared.Refusal.TheVariants.{InputTooLarge}
use Rattle.walk.specs.Refusals.{number_of}
use Rattle.walk.specs.State.{State}
use Rattle.walk.specs.Opening.{Input, width_in, Lengths, P, room_for, Opening, closed, opened, open_walk}
use Rattle.walk.specs.Next.{Kind, end, refused, handed, Answer}
use Rattle.walk.specs.Calls.{answer_at_call, answers}
use Rattle.walk.specs.Reach.{Mem}
use Rattle.walk.specs.AnyInput.{handed_by, AllNumbers}
use Rattle.walk.proofs.Calls.{answers_at}
use Rattle.walk.proofs.Numbers.{all-numbers}
use Rattle.walk.proofs.Outcomes.{refusal_number_between}
use Rattle.walk.proofs.Tips.{open_accepted}
use Rattle.walk.proofs.Universe.{all_told}
use Rattle.walk.proofs.Width.{universe-wide}
use Rattle.traverse.proofs.Numbered.{length_up_to}
use Rattle.swatch.specs.Text.{decimal, commit_line, refusal_line, end_line, line_of, is_end, lines_of, most_bytes, tips_in, store_in, input_in, text_of, text}
use Rattle.swatch.proofs.Words.{length_hex, decimal-one, decimal_two, decimal_three}
use Rattle.swatch.proofs.Listing.{true_open}

-- ---- a line

decimal-short : (n : ℕ) → n < 1000 → length (decimal n) ≤ 3
decimal-short n h =
    by_cases (ltb n 10)
    (λ a. omega (arith, ap length (decimal-one n (ltb-true n 10 a))))
    (λ a. by_cases (ltb n 100)
    (λ d. omega (arith, ap length (decimal_two n (ltb-false n 10 a) (ltb-true n 100 d))))
    (λ d. omega (arith, ap length (decimal_three n (ltb-false n 100 d) h))))

refusal-short : (r : Refusal) → length (refusal_line r) ≤ 45
unfolding refusal_line
refusal-short r = simp length-append (omega (arith, decimal-short (number_of r) (omega (arith, refusal_number_between r))))

commit-short : (x : Id) (n : ℕ) → length x ≡ id_bytes → n < 1000 → length (commit_line x n) ≤ 45
unfolding commit_line
commit-short x n w h = simp length-append (omega (arith, length_hex x, decimal-short n h))

line-short : (k : Kind) (n : ℕ) → ((x : Id) → Mem x (handed_by k) → length x ≡ id_bytes) → n < 1000 → length (line_of k n) ≤ 45
unfolding line_of end_line handed_by
line-short end n w h = omega arith
line-short (refused r) n w h = refusal-short r
line-short (handed x g t) n w h = commit-short x n (w x (Memᴰ.head refl)) h

-- ---- all lines

lines_short : (l : List Answer) → ((a : Answer) → Mem a l → length (line_of a.kind (length a.parents)) ≤ 45) → length (lines_of l) ≤ 45 * length l
unfolding lines_of
lines_short [] h = omega arith
lines_short (a ∷ l) h =
    let m = lines_short l (λ d i. h d (Memᴰ.tail i)) in
    simp length-append (omega (arith, h a (Memᴰ.head refl), go (is_end a.kind) m))
  where
    go : (b : Bool) → length (lines_of l) ≤ 45 * length l → length (cond b [] (lines_of l)) ≤ 45 * length l
    go true m = omega arith
    go false m = m

answers-short : (i : Input) (st : State) → width_in i ≡ id_bytes → open_walk i true ≡ opened st → (n : ℕ) → length (lines_of (answers i n)) ≤ 45 * n
unfolding AllNumbers
answers-short i st q e n =
    let s = lines_short (answers i n) (λ a m.
    line-short a.kind (length a.parents) (λ x d. universe-wide i (open_accepted i st e) x ((all_told i st e n a m).id_in_lem x d) ∙ q) (omega (arith, (all-numbers i n a m).parents_in))) in
    omega (arith, s, ap length (answers_at i n) ∙ length_up_to (answer_at_call i) n)

-- ---- the input

pub places-few : (b : List ℕ) → length b ≤ most_bytes → P (input_in b) ≤ 1365
unfolding P input_in tips_in store_in graph_count
places-few b h =
    let t : length (take id_bytes b) ≤ 20 = simp length-take (omega arith) in
    by_cases (ltb (length b) id_bytes) (λ a. rw a (omega arith)) (λ a. rw a (simp length-drop (omega arith)))

text_of-fits : (b : List ℕ) (room : Bool) → length b ≤ most_bytes → length (text_of (input_in b) (open_walk (input_in b) room)) ≤ most_bytes
unfolding text_of input_in
text_of-fits b room h = go (open_walk (input_in b) room) refl
  where
    go : (o : Opening) → open_walk (input_in b) room ≡ o → length (text_of (input_in b) o) ≤ most_bytes
    go (closed r) e = omega (arith, refusal-short r)
    go (opened st) e = omega (arith, answers-short (input_in b) st refl (true_open (input_in b) room st e) (P (input_in b) + 2), places-few b h)

pub text-fits : (b : List ℕ) (l : Lengths) → length (text b l) ≤ most_bytes
unfolding text
text-fits b l =
    by_cases (leb (length b) most_bytes)
    (λ e. rw e (text_of-fits b (room_for (input_in b) l) (leb-true (length b) most_bytes e)))
    (λ e. rw e (omega (arith, refusal-short InputTooLarge)))
