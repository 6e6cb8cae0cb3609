-- What a writing that gives a file has found and left: nothing refuses the store, and the file stands in the first bytes of the output. Assumes nothing.
use Rattle.std.specs.Prelude.{Err, None, Ok, Option, Result, Some}
use mathlib.Core.Path.{◌≡◌, refl, sym, ◌∙◌, ap, subst}
use mathlib.Core.Bool.{Bool, true, false, cond}
use mathlib.Core.List.{List}
use Prim.Native.Nat.{ℕ, ◌≤◌}
use native.Mathlib.Omega.{arith}
use lib.ListN.{length, take}
use lib.Dec.{ltb}
use borrow.Author.Tests.{ltb-false}
use Rattle.hash.specs.Bytes.{width_of}
use Rattle.hash.specs.declared.Kind.{Kind}
use Rattle.hash.proofs.Tests.{by_cases, clash, no-some}
use Rattle.odb.specs.Store.{standing_entries}
use Rattle.commitgraph.specs.Graph.{hash_version}
use Rattle.graphfile.specs.GraphFile.{edges_in, ReadBack}
use Rattle.walk.specs.declared.Refusal.{Refusal}
use Rattle.walk.specs.declared.Refusal.TheVariants.{ShortOutput}
use Rattle.graphplan.specs.StoreRows.{rows_of}
use Rattle.graphplan.specs.Refusing.{refusal_for}
use Rattle.graphwrite.specs.Writing.{file_of, length_of, length_answer, or_else, write_refusal, output_after, Writes}
use Rattle.graphbytes.proofs.Fill.{read_down}
use Rattle.graphwrite.proofs.Laid.{whole_long}
use Rattle.graphplan.proofs.Planning.{number, differ, accepted}
use Rattle.graphtold.specs.Told.{SameCommits, FileThere}
use Rattle.graphtold.proofs.Right.{read_back}
use Rattle.graphtold.proofs.Same.{equal_files}

-- ---- how long the file is

pub file-long : (kind : Kind) (b : List ℕ) (lent : ℕ) → refusal_for (width_of kind) b lent ≡ None → length (file_of kind b) ≡ length_of (width_of kind) b
unfolding length_of
file-long kind b lent e =
    let w = width_of kind in
    whole_long kind b (standing_entries w b) (length (edges_in (rows_of w b))) (accepted w b lent e) refl

-- ---- the answer

is_file : Result ℕ Refusal → Bool
is_file (Ok n) = true
is_file (Err r) = false

file_size : Result ℕ Refusal → ℕ
file_size (Ok n) = n
file_size (Err r) = 0

file_said : (w : ℕ) (b : List ℕ) (o : Option Refusal) (n : ℕ) → Ok n ≡ length_answer w b o → (o ≡ None) × (n ≡ length_of w b)
unfolding is_file file_size
file_said w b None n e = (refl, ap file_size e)
file_said w b (Some r) n e = clash {b = true} refl (sym (ap is_file (sym e)))

none_first : (o p : Option Refusal) → or_else o p ≡ None → (o ≡ None) × (p ≡ None)
none_first None p e = (refl, e)
none_first (Some r) p e = no-some (sym e)

room_said : (room l : ℕ) → cond (ltb room l) (Some ShortOutput) None ≡ None → l ≤ room
unfolding number
room_said room l e = by_cases (ltb room l) (λ t. differ (Some ShortOutput) None (λ d. omega arith) (sym (ap (λ (x : Bool). cond x (Some ShortOutput) None) t) ∙ e)) (λ t. ltb-false room l t)

pub file-there : (kind : Kind) (b s s' out out' : List ℕ) (n : ℕ) → Writes kind b s s' out out' (Ok n) → FileThere kind b s n out out'
unfolding write_refusal
file-there kind b s s' out out' n W =
    let w = width_of kind in
    let a = file_said w b (write_refusal w b (length s) (length out)) n W.answer in
    let o = none_first (refusal_for w b (length s)) (cond (ltb (length out) (length_of w b)) (Some ShortOutput) None) a.0 in
    let l : length (file_of kind b) ≡ n = file-long kind b (length s) o.0 ∙ sym a.1 in
    let r : n ≤ length out = omega (arith, room_said (length out) (length_of w b) o.1, a.1) in
    record {
      accepted = o.0;
      long = l;
      room = r;
      there = ap (take n) (W.output ∙ ap (output_after kind b out) a.0) ∙ read_down out (file_of kind b) n l r;
    }

-- "Our reader must accept each such file": what was written is taken, and each row's id, parents, level and seconds are found
pub written-reads : (kind : Kind) (b s s' out out' : List ℕ) (n : ℕ) → Writes kind b s s' out out' (Ok n) → ReadBack (hash_version kind) (width_of kind) (rows_of (width_of kind) b) (take n out')
written-reads kind b s s' out out' n W =
    let f = file-there kind b s s' out out' n W in
    subst (λ (g : List ℕ). ReadBack (hash_version kind) (width_of kind) (rows_of (width_of kind) b) g) (sym f.there) (read_back kind b (length s) W.lent f.accepted)

-- two writings of the same commits: as many bytes, and the same
pub equal_writings : (kind : Kind) (a b : List ℕ) {s s' t t' p p' q q' : List ℕ} (m n : ℕ) → Writes kind a s s' p p' (Ok m) → Writes kind b t t' q q' (Ok n) → SameCommits (width_of kind) a b
    → (m ≡ n) × (take m p' ≡ take n q')
equal_writings kind a b {s} {s'} {t} {t'} {p} {p'} {q} {q'} m n A B S =
    let f = file-there kind a s s' p p' m A in
    let g = file-there kind b t t' q q' n B in
    let e = equal_files kind a b (length s) (length t) f.accepted g.accepted S in
    (sym f.long ∙ ap length e ∙ g.long, f.there ∙ e ∙ sym g.there)
