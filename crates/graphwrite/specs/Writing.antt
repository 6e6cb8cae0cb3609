-- Writing a graph file (document 02, card 4): when it is refused, and what stands in the output. Assumes nothing.
use Rattle.std.specs.Prelude.{◌≡◌, ℕ, ◌<◌, cond, List, length, get_or, ltb, Err, None, Ok, Option, Result, Some}
use Rattle.hash.specs.Bytes.{set_down, width_of}
use Rattle.hash.specs.declared.Kind.{Kind}
use Rattle.odb.specs.Store.{standing_entries}
use Rattle.commitgraph.specs.Graph.{hash_version}
use Rattle.commitid.specs.Name.{digest_of}
use Rattle.graphfile.specs.GraphFile.{edges_in, graph_file, file_length}
use Rattle.walk.specs.declared.Refusal.{Refusal}
use Rattle.walk.specs.declared.Refusal.TheVariants.{ShortOutput}
use Rattle.graphplan.specs.StoreRows.{rows_of}
use Rattle.graphplan.specs.Refusing.{refusal_for, Spared, refusing_all}

-- the file of a store, and its length
unfoldable pub file_of : Kind → List ℕ → List ℕ
file_of kind b = graph_file (hash_version kind) (width_of kind) (digest_of kind) (rows_of (width_of kind) b)

unfoldable pub length_of : ℕ → List ℕ → ℕ
length_of w b = file_length w (standing_entries w b) (length (edges_in (rows_of w b)))

-- how long the file will be, or why there is none
abbrev pub length_answer : ℕ → List ℕ → Option Refusal → Result ℕ Refusal
length_answer w b None = Ok (length_of w b)
length_answer w b (Some r) = Err r

abbrev pub or_else : Option Refusal → Option Refusal → Option Refusal
or_else None r = r
or_else (Some x) r = Some x

-- "20 short output", after the others
unfoldable pub write_refusal : ℕ → List ℕ → ℕ → ℕ → Option Refusal
write_refusal w b lent room =
    let r : Option Refusal = cond (ltb room (length_of w b)) (Some ShortOutput) None in
    or_else (refusal_for w b lent) r

-- "A refusal leaves the output buffer alone; an accepted writing alters only the file's own bytes there"
abbrev pub output_after : Kind → List ℕ → List ℕ → Option Refusal → List ℕ
output_after kind b out None = set_down out 0 (file_of kind b)
output_after kind b out (Some r) = out

pub record Measures (w : ℕ) (b s s' : List ℕ) (r : Result ℕ Refusal) : Type 0 where
  pub answer : r ≡ length_answer w b (refusal_for w b (length s))
  pub spared : Spared s s' (refusal_for w b (length s))

-- what is lent as a file is bytes
pub record Bytes (b : List ℕ) : Type 0 where
  pub each : (k : ℕ) → get_or b k 0 < 256

pub record Writes (kind : Kind) (b s s' out out' : List ℕ) (r : Result ℕ Refusal) : Type 0 where
  pub lent : Bytes b
  pub answer : r ≡ length_answer (width_of kind) b (write_refusal (width_of kind) b (length s) (length out))
  pub output : out' ≡ output_after kind b out (write_refusal (width_of kind) b (length s) (length out))
  pub spared : Spared s s' (write_refusal (width_of kind) b (length s) (length out))

unfoldable pub writing_all : Unit {0}
unfolding refusing_all file_of length_of write_refusal
writing_all = tt
