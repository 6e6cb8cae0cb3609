-- The commit-graph file (document 01: the graph file; git's gitformat-commit-graph): its layout, its rows and its parent lists.
-- All numbers are big-endian. Document 02, card 13: ids are w bytes wide; rows and the checksum follow them. Assumes nothing.
use Rattle.std.specs.Prelude.{◌≡◌, ℕ, zero, suc, ◌+◌, ◌*◌, ◌-◌, ◌/◌, ◌%◌, ◌≤◌, ◌<◌, min, Bool, true, false, cond, not, ◌&&◌, List, [], ◌∷◌, length, take, drop, get_or, eqb, ltb, leb, ℤ, pos, None, Option, Some}
use Rattle.hash.specs.Bytes.{Id, eq_id, at, u32_at, u64_at, if_some}
use Rattle.hash.specs.declared.Kind.{Kind}
use Rattle.hash.specs.declared.Kind.TheVariants.{Sha1, Sha256}
use Rattle.idlist.specs.IdList.{IdList, id_of, rising, find_in}
use Rattle.commitgraph.specs.declared.Layout.{Layout}

-- ---- the header (refusal 5) and the table of chunks

-- "hash version 1"; card 13: "graph hash version 2 … belongs to" SHA-256
abbrev pub hash_version : Kind → ℕ
hash_version Sha1 = 1
hash_version Sha256 = 2

-- "`CGPH`, version 1, hash version [v], chunk count C, base count 0": the first 8 bytes, C being free
unfoldable pub graph_head : ℕ → List ℕ → Bool
graph_head v g =
    let r : Bool = eq_id (take 6 g) (67 ∷ 71 ∷ 80 ∷ 72 ∷ 1 ∷ v ∷ []) && eqb (get_or g 7 0) 0 in
    cond (leb 8 (length g)) r false

unfoldable pub chunk_count : List ℕ → ℕ
chunk_count g = get_or g 6 0

-- "C+1 rows of 4-byte id and 8-byte offset": row i
unfoldable pub chunk_id : List ℕ → ℕ → ℕ
chunk_id g i = u32_at g (8 + 12 * i)

unfoldable pub chunk_offset : List ℕ → ℕ → ℕ
chunk_offset g i = u64_at g (12 + 12 * i)

-- "Offsets never fall": of the first n chunks, each up to the next row's
unfoldable pub offsets_rise : List ℕ → ℕ → Bool
offsets_rise g zero = true
offsets_rise g (suc n) = let r = leb (chunk_offset g n) (chunk_offset g (suc n)) in cond (offsets_rise g n) r false

-- how many of the first n chunks have an id
unfoldable pub chunks_of : List ℕ → ℕ → ℕ → ℕ
chunks_of g c zero = 0
chunks_of g c (suc n) = chunks_of g c n + cond (eqb (chunk_id g n) c) 1 0

-- the first of the first n chunks that has an id: its number
unfoldable pub chunk_in : List ℕ → ℕ → ℕ → Option ℕ
chunk_in g c zero = None
chunk_in g c (suc n) =
    let here : Option ℕ = cond (eqb (chunk_id g n) c) (Some n) None in
    if_some (chunk_in g c n) here (λ k. Some k)

abbrev pub OIDF : ℕ
OIDF = 0x4f494446

abbrev pub OIDL : ℕ
OIDL = 0x4f49444c

abbrev pub CDAT : ℕ
CDAT = 0x43444154

abbrev pub EDGE : ℕ
EDGE = 0x45444745

-- where a chunk starts and how long it is; 0 where there is none
unfoldable pub chunk_start : List ℕ → ℕ → ℕ
chunk_start g c = if_some (chunk_in g c (chunk_count g)) 0 (λ k. chunk_offset g k)

unfoldable pub chunk_size : List ℕ → ℕ → ℕ
chunk_size g c = if_some (chunk_in g c (chunk_count g)) 0 (λ k. chunk_offset g (suc k) - chunk_offset g k)

-- "the last id 0 … the first [offset] is 8+12·(C+1), the last is length − 20 [the checksum, w bytes] … `OIDF`, `OIDL`, `CDAT`
-- once each, `EDGE` at most once, others skipped". The first test guards the others: only where it holds does the table stand in the file.
unfoldable pub table_ok : ℕ → List ℕ → Bool
table_ok w g =
    let c = chunk_count g in
    let r : Bool =
    eqb (chunk_id g c) 0 && eqb (chunk_offset g 0) (8 + 12 * (c + 1)) && eqb (chunk_offset g c + w) (length g) && offsets_rise g c
    && eqb (chunks_of g OIDF c) 1 && eqb (chunks_of g OIDL c) 1 && eqb (chunks_of g CDAT c) 1 && leb (chunks_of g EDGE c) 1 in
    cond (leb (8 + 12 * (c + 1) + w) (length g)) r false

-- ---- the four chunks

-- entry i of the fan-out
unfoldable pub fan_at : List ℕ → ℕ → ℕ
fan_at g i = u32_at g (chunk_start g OIDF + 4 * i)

-- N, the number of commits: the fan-out's last entry. A zero-length graph means none
unfoldable pub graph_count : List ℕ → ℕ
graph_count [] = 0
graph_count (x ∷ g) = fan_at (x ∷ g) 255

-- the ids of OIDL
unfoldable pub graph_ids : ℕ → List ℕ → IdList
graph_ids w g = record { bytes = g; width = w; base = chunk_start g OIDL; stride = w }

unfoldable pub graph_id : ℕ → List ℕ → ℕ → Id
graph_id w g p = id_of (graph_ids w g) p

-- the first byte of id p
unfoldable pub first_byte : ℕ → List ℕ → ℕ → ℕ
first_byte w g p = get_or g (chunk_start g OIDL + w * p) 0

-- how many of the first n ids begin with a byte of at most x
unfoldable pub at_most : ℕ → List ℕ → ℕ → ℕ → ℕ
at_most w g x zero = 0
at_most w g x (suc n) = at_most w g x n + cond (leb (first_byte w g n) x) 1 0

-- "OIDF: 256 u32, the i-th counting ids whose first byte is at most i": its first k entries
unfoldable pub fan_ok : ℕ → List ℕ → ℕ → Bool
fan_ok w g zero = true
fan_ok w g (suc k) = let r = eqb (fan_at g k) (at_most w g k (graph_count g)) in cond (fan_ok w g k) r false

-- entry b parts the ids: the one before it begins with b at most, the one at it with more
pub record Parts (w : ℕ) (g : List ℕ) (b : ℕ) : Type 0 where
  pub low : (k : ℕ) → suc k ≡ fan_at g b → first_byte w g k ≤ b
  pub high : fan_at g b < graph_count g → b < first_byte w g (fan_at g b)

-- a row: the tree's id and four u32
abbrev pub row_size : ℕ → ℕ
row_size w = w + 16

-- 256 u32, N ids strictly rising, N rows, whole u32s. The first tests guard the others
unfoldable pub chunks_ok : ℕ → List ℕ → Bool
chunks_ok w g =
    let n = graph_count g in
    let r : Bool = fan_ok w g 256 && rising (graph_ids w g) n in
    cond (eqb (chunk_size g OIDF) 1024 && eqb (chunk_size g OIDL) (w * n) && eqb (chunk_size g CDAT) (row_size w * n) && eqb (chunk_size g EDGE % 4) 0) r false

-- the rest of the layout (refusal 6)
unfoldable pub graph_ok : ℕ → List ℕ → Bool
graph_ok w g = let r : Bool = chunks_ok w g in cond (table_ok w g) r false

-- where the chunks stand, found by one reading of the table, before any row is looked at
unfoldable pub places_of : List ℕ → Layout
places_of g = record {
  fan = chunk_start g OIDF;
  ids = chunk_start g OIDL;
  rows = chunk_start g CDAT;
  edge = chunk_start g EDGE;
  edges = chunk_size g EDGE / 4;
  count = graph_count g;
  levels = false;
}

-- row p where a layout has it. "CDAT: N rows of 36 bytes: tree id, two u32 parents, then a u32 whose high 30 bits are the level and
-- whose low 2 bits are the high bits of the 34-bit seconds, then their low 32": the numbers stand at w, w + 4, w + 8 and w + 12
unfoldable pub row_in : ℕ → List ℕ → Layout → ℕ → List ℕ
row_in w g l p = at g (l.rows + row_size w * p) (row_size w)

-- the level that row p states
unfoldable pub stated_level : ℕ → List ℕ → Layout → ℕ → ℕ
stated_level w g l p = u32_at (row_in w g l p) (w + 8) / 4

-- card 6: "If any row has level 0, no level of that file is used": none of the first n rows states it
unfoldable pub levelled : ℕ → List ℕ → Layout → ℕ → Bool
levelled w g l zero = true
levelled w g l (suc n) = let r = not (eqb (stated_level w g l n) 0) in cond (levelled w g l n) r false

-- what is found of a file once, for all that is read in it: where its chunks stand, and whether its levels are used
unfoldable pub layout_of : ℕ → List ℕ → Layout
layout_of w g = record {
  fan = chunk_start g OIDF;
  ids = chunk_start g OIDL;
  rows = chunk_start g CDAT;
  edge = chunk_start g EDGE;
  edges = chunk_size g EDGE / 4;
  count = graph_count g;
  levels = levelled w g (places_of g) (graph_count g);
}

-- ---- lookup and rows

-- the position of an id
unfoldable pub graph_find : ℕ → List ℕ → Id → Option ℕ
graph_find w g x = find_in (graph_ids w g) x (graph_count g)

abbrev pub position_of : Option ℕ → Option ℕ
position_of None = None
position_of (Some p) = Some p

-- id p where a layout has it
unfoldable pub id_in : ℕ → List ℕ → Layout → ℕ → Id
id_in w g l p = at g (l.ids + w * p) w

-- how many ids begin with a byte below i, as the fan-out tells
unfoldable pub ids_below : List ℕ → Layout → ℕ → ℕ
ids_below g l i = cond (eqb i 0) 0 (u32_at g (l.fan + 4 * (i - 1)))

-- what a lookup of x answers. In a right file it is the position of x. On any bytes and any layout an id of another width is absent, and
-- what is found is x, below N and whole in the file. The premise of `right` stays: among ids that do not rise a search may miss one that
-- stands there, and which ones it misses only the search itself would tell.
pub record Looks (w : ℕ) (g : List ℕ) (l : Layout) (x : Id) (r : Option ℕ) : Type 0 where
  pub right : graph_ok w g ≡ true → l ≡ layout_of w g → r ≡ position_of (graph_find w g x)
  pub hit : (p : ℕ) → r ≡ Some p → (p < l.count) × (id_in w g l p ≡ x)
  pub inside : (p : ℕ) → r ≡ Some p → l.ids + w * p + w ≤ length g
  pub foreign : (length x ≡ w → ⊥) → r ≡ None

-- the first byte of row p, and the byte after its last; the end of the file where they are past it
unfoldable pub row_start : ℕ → List ℕ → Layout → ℕ → ℕ
row_start w g l p = min (l.rows + row_size w * p) (length g)

unfoldable pub row_end : ℕ → List ℕ → Layout → ℕ → ℕ
row_end w g l p = min (l.rows + row_size w * p + row_size w) (length g)

-- "Without a graph row the level is 0xFFFFFFFF": the level of a commit that has none
abbrev pub no_generation : ℕ
no_generation = 0xFFFFFFFF

-- the level of row p in its pair. Card 6: where no level of the file is used, "pairs take 0xFFFFFFFF" (document 01 took level 0 as one below 1)
unfoldable pub level_in : ℕ → List ℕ → Layout → ℕ → ℕ
level_in w g l p = cond l.levels (stated_level w g l p) no_generation

unfoldable pub seconds_in : ℕ → List ℕ → Layout → ℕ → ℤ
seconds_in w g l p = pos (u32_at (row_in w g l p) (w + 8) % 4 * 0x100000000 + u32_at (row_in w g l p) (w + 12))

unfoldable pub graph_row : ℕ → List ℕ → ℕ → List ℕ
graph_row w g p = row_in w g (layout_of w g) p

-- generation (document 01: level)
unfoldable pub generation : ℕ → List ℕ → ℕ → ℕ
generation w g p = level_in w g (layout_of w g) p

unfoldable pub graph_seconds : ℕ → List ℕ → ℕ → ℤ
graph_seconds w g p = seconds_in w g (layout_of w g) p

-- ---- parent lists

-- "Parent 0x70000000 is none"
abbrev pub no_parent : ℕ
no_parent = 0x70000000

abbrev pub top_bit : ℕ
top_bit = 0x80000000

-- entry j of EDGE
unfoldable pub edge_in : List ℕ → Layout → ℕ → ℕ
edge_in g l j = u32_at g (l.edge + 4 * j)

-- a parent before the others
abbrev pub with_parent : ℕ → Option (List ℕ) → Option (List ℕ)
with_parent q None = None
with_parent q (Some ps) = Some (q ∷ ps)

-- "the list holds the second parent onward and ends at the first entry with the top bit set, whose other bits are the last parent":
-- at most k entries of EDGE, from entry j on; none where EDGE runs out, a position is at least N, or more come
unfoldable pub edges_from : List ℕ → Layout → ℕ → ℕ → Option (List ℕ)
edges_from g l zero j = None
edges_from g l (suc k) j =
    let v = edge_in g l j in
    let after = edges_from g l k (suc j) in
    let here : Option (List ℕ) = with_parent (v % top_bit) (cond (leb top_bit v) (Some []) after) in
    cond (ltb j l.edges) (cond (ltb (v % top_bit) l.count) here None) None

-- the most parents of a commit
abbrev pub most_parents : ℕ
most_parents = 256

-- the parents after the first, by the row's second parent: none, one, or those that EDGE lists
unfoldable pub after_first : List ℕ → Layout → ℕ → Option (List ℕ)
after_first g l b =
    let one : Option (List ℕ) = cond (ltb b l.count) (Some (b ∷ [])) None in
    let listed : Option (List ℕ) = edges_from g l 255 (b % top_bit) in
    cond (eqb b no_parent) (Some []) (cond (leb top_bit b) listed one)

-- the positions of a row's parents, in order; none where the list is corrupt: "a position is at least N, the first parent is none or
-- has the top bit while a second stands, EDGE runs out, or over 256 parents come"
unfoldable pub parents_in : ℕ → List ℕ → Layout → ℕ → Option (List ℕ)
parents_in w g l p =
    let a = u32_at (row_in w g l p) w in
    let b = u32_at (row_in w g l p) (w + 4) in
    let root : Option (List ℕ) = cond (eqb b no_parent) (Some []) None in
    cond (eqb a no_parent) root (cond (ltb a l.count) (with_parent a (after_first g l b)) None)

-- parent k of a row by its place alone, on any bytes: "A second parent with the top bit set points, by the rest, into EDGE … there the list
-- holds the second parent onward". Where the row has no such parent its number is `no_parent`, as the row has it; where k is past the
-- end of the list this is no parent but what stands at that place
unfoldable pub parent_in : ℕ → List ℕ → Layout → ℕ → ℕ → ℕ
parent_in w g l p zero = u32_at (row_in w g l p) w
parent_in w g l p (suc k) = let b = u32_at (row_in w g l p) (w + 4) in cond (leb top_bit b) (edge_in g l (b % top_bit + k) % top_bit) b

unfoldable pub graph_parents : ℕ → List ℕ → ℕ → Option (List ℕ)
graph_parents w g p = parents_in w g (layout_of w g) p

-- what reading a parent list answers: how many parents it has
abbrev pub parent_list_of : Option (List ℕ) → Option ℕ
parent_list_of None = None
parent_list_of (Some ps) = Some (length ps)

-- the same of a list that c parents stand before
abbrev pub counted_from : ℕ → Option (List ℕ) → Option ℕ
counted_from c None = None
counted_from c (Some ps) = Some (c + length ps)

unfoldable pub graph_all : Unit {0}
unfolding graph_head chunk_count chunk_id chunk_offset offsets_rise chunks_of chunk_in chunk_start chunk_size table_ok fan_at graph_count graph_ids graph_id first_byte at_most fan_ok chunks_ok graph_ok places_of stated_level levelled layout_of graph_find id_in ids_below row_in row_start row_end level_in seconds_in graph_row generation graph_seconds edge_in edges_from after_first parents_in parent_in graph_parents
graph_all = tt
