-- The commit-graph file that is written (document 02, card 4): "OIDF, OIDL, CDAT, then EDGE only if some commit has over two parents, its lists in row
-- order", over rows alone. Ids are w bytes wide, and v is the hash version (card 13). The checksum is a function that is handed in. Assumes nothing.
use Rattle.std.specs.Prelude.{◌≡◌, ℕ, zero, suc, ◌+◌, ◌*◌, ◌/◌, ◌%◌, ◌≤◌, ◌<◌, true, cond, length, get_or, eqb, leb, pos, Some}
use mathlib.Core.List.{List, [], ◌∷◌, ◌++◌}
use Rattle.hash.specs.Bytes.{Id, lt_id}
use Rattle.commitgraph.specs.Graph.{OIDF, OIDL, CDAT, EDGE, no_parent, top_bit, row_size, graph_head, graph_ok, graph_count, graph_id, graph_parents, generation, graph_seconds}

-- a commit of the store: its id, its tree, its parents' positions in header order, its level, its seconds
pub record Row : Type 0 where
  pub id : Id
  pub tree : Id
  pub parents : List ℕ
  pub level : ℕ
  pub seconds : ℕ

abbrev pub no_row : Row
no_row = record { id = []; tree = []; parents = []; level = 0; seconds = 0 }

unfoldable pub row_at : List Row → ℕ → Row
row_at [] k = no_row
row_at (r ∷ rs) zero = r
row_at (r ∷ rs) (suc k) = row_at rs k

-- big-endian numbers
abbrev pub u32 : ℕ → List ℕ
u32 x = x / 16777216 % 256 ∷ x / 65536 % 256 ∷ x / 256 % 256 ∷ x % 256 ∷ []

unfoldable pub flat : List (List ℕ) → List ℕ
flat [] = []
flat (x ∷ xs) = x ++ flat xs

unfoldable pub words : List ℕ → List (List ℕ)
words [] = []
words (x ∷ xs) = u32 x ∷ words xs

-- ---- OIDF

-- how many of the first n rows have ids that begin with a byte of at most x
unfoldable pub at_most_in : List Row → ℕ → ℕ → ℕ
at_most_in rs x zero = 0
at_most_in rs x (suc n) = at_most_in rs x n + cond (leb (get_or (row_at rs n).id 0 0) x) 1 0

-- the entries from x on, n of them
unfoldable pub fan_from : List Row → ℕ → ℕ → List ℕ
fan_from rs x zero = []
fan_from rs x (suc n) = at_most_in rs x (length rs) ∷ fan_from rs (suc x) n

-- ---- OIDL

unfoldable pub ids_in : List Row → List (List ℕ)
ids_in [] = []
ids_in (r ∷ rs) = r.id ∷ ids_in rs

-- ---- EDGE

-- "the list … ends at the first entry with the top bit set, whose other bits are the last parent"
unfoldable pub marked : List ℕ → List ℕ
marked [] = []
marked (q ∷ []) = (top_bit + q) ∷ []
marked (q ∷ (p ∷ ps)) = q ∷ marked (p ∷ ps)

-- the entries of one row: the second parent onward, of over two
unfoldable pub edges_of : List ℕ → List ℕ
edges_of [] = []
edges_of (a ∷ []) = []
edges_of (a ∷ (b ∷ [])) = []
edges_of (a ∷ (b ∷ (c ∷ ps))) = marked (b ∷ (c ∷ ps))

-- of all rows, in row order
unfoldable pub edges_in : List Row → List ℕ
edges_in [] = []
edges_in (r ∷ rs) = edges_of r.parents ++ edges_in rs

-- ---- CDAT

unfoldable pub first_of : List ℕ → ℕ
first_of [] = no_parent
first_of (a ∷ ps) = a

-- the second field: none, the parent, or where the list starts in EDGE
unfoldable pub second_of : ℕ → List ℕ → ℕ
second_of e [] = no_parent
second_of e (a ∷ []) = no_parent
second_of e (a ∷ (b ∷ [])) = b
second_of e (a ∷ (b ∷ (c ∷ ps))) = top_bit + e

unfoldable pub row_bytes : ℕ → Row → List ℕ
row_bytes e r =
    r.tree ++ (u32 (first_of r.parents) ++ (u32 (second_of e r.parents) ++ (u32 (r.level * 4 + r.seconds / 4294967296) ++ u32 (r.seconds % 4294967296))))

-- the rows, e entries of EDGE standing before
unfoldable pub data_from : ℕ → List Row → List (List ℕ)
data_from e [] = []
data_from e (r ∷ rs) = row_bytes e r ∷ data_from (e + length (edges_of r.parents)) rs

-- ---- the file

-- where the fan-out, the ids, the rows and the entries of EDGE end, the fan-out starting at o
abbrev pub ids_end : ℕ → ℕ → ℕ → ℕ
ids_end w o n = o + 1024 + w * n

abbrev pub rows_end : ℕ → ℕ → ℕ → ℕ
rows_end w o n = ids_end w o n + row_size w * n

-- header and table: n rows and no EDGE; n rows and e entries of EDGE
unfoldable pub three_chunks : ℕ → ℕ → ℕ → List ℕ
three_chunks v w n =
    67 ∷ 71 ∷ 80 ∷ 72 ∷ 1 ∷ v ∷ 3 ∷ 0 ∷ (u32 OIDF ++ (u32 0 ++ (u32 56 ++ (u32 OIDL ++ (u32 0 ++ (u32 1080
    ++ (u32 CDAT ++ (u32 0 ++ (u32 (ids_end w 56 n) ++ (u32 0 ++ (u32 0 ++ u32 (rows_end w 56 n))))))))))))

unfoldable pub four_chunks : ℕ → ℕ → ℕ → ℕ → List ℕ
four_chunks v w n e =
    67 ∷ 71 ∷ 80 ∷ 72 ∷ 1 ∷ v ∷ 4 ∷ 0 ∷ (u32 OIDF ++ (u32 0 ++ (u32 68 ++ (u32 OIDL ++ (u32 0 ++ (u32 1092
    ++ (u32 CDAT ++ (u32 0 ++ (u32 (ids_end w 68 n) ++ (u32 EDGE ++ (u32 0 ++ (u32 (rows_end w 68 n) ++ (u32 0 ++ (u32 0 ++ u32 (rows_end w 68 n + 4 * e)))))))))))))))

unfoldable pub front_of : ℕ → ℕ → ℕ → ℕ → List ℕ
front_of v w n e = cond (eqb e 0) (three_chunks v w n) (four_chunks v w n e)

-- the file with what stands at its end
unfoldable pub file_with : ℕ → ℕ → List Row → List ℕ → List ℕ
file_with v w rs end =
    front_of v w (length rs) (length (edges_in rs))
    ++ (flat (words (fan_from rs 0 256)) ++ (flat (ids_in rs) ++ (flat (data_from 0 rs) ++ (flat (words (edges_in rs)) ++ end))))

-- "SHA-1 at the end", or the digest of the other kind: of all that stands before it
unfoldable pub graph_file : ℕ → ℕ → (List ℕ → List ℕ) → List Row → List ℕ
graph_file v w sum rs = file_with v w rs (sum (file_with v w rs []))

-- its length, without computing it: what 20 is tested by
unfoldable pub file_length : ℕ → ℕ → ℕ → ℕ
file_length w n e = cond (eqb e 0) (rows_end w 56 n) (rows_end w 68 n + 4 * e) + w

-- ---- what is right of rows, and what the reader finds

pub record RowRight (w n : ℕ) (r : Row) : Type 0 where
  pub id-long : length r.id ≡ w
  pub id_byte : get_or r.id 0 0 ≤ 255
  pub tree-long : length r.tree ≡ w
  pub few : length r.parents ≤ 256
  pub inside : (j : ℕ) → j < length r.parents → get_or r.parents j 0 < n
  pub level-some : 0 < r.level
  pub level-fits : r.level < 1073741824
  pub seconds-fit : r.seconds < 17179869184

pub record RowsRight (w : ℕ) (rs : List Row) : Type 0 where
  pub each : (k : ℕ) → k < length rs → RowRight w (length rs) (row_at rs k)
  pub rises : (k : ℕ) → suc k < length rs → lt_id (row_at rs k).id (row_at rs (suc k)).id ≡ true
  pub rows_few : length rs ≤ 1048576
  pub edges_few : length (edges_in rs) ≤ 268435456

pub record RowRead (w : ℕ) (g : List ℕ) (p : ℕ) (r : Row) : Type 0 where
  pub id : graph_id w g p ≡ r.id
  pub parents : graph_parents w g p ≡ Some r.parents
  pub level : generation w g p ≡ r.level
  pub seconds : graph_seconds w g p ≡ pos r.seconds

-- our reader takes the file, and finds each row
pub record ReadBack (v w : ℕ) (rs : List Row) (g : List ℕ) : Type 0 where
  pub head : graph_head v g ≡ true
  pub ok : graph_ok w g ≡ true
  pub count : graph_count g ≡ length rs
  pub rows : (p : ℕ) → p < length rs → RowRead w g p (row_at rs p)
  pub long : length g ≡ file_length w (length rs) (length (edges_in rs))

unfoldable pub file_all : Unit {0}
unfolding row_at flat words at_most_in fan_from ids_in marked edges_of edges_in first_of second_of row_bytes data_from three_chunks four_chunks front_of file_with graph_file file_length
file_all = tt
