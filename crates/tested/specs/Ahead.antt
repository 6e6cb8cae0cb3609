-- What a tested opening reads ahead of the commit in hand: words that decide nothing (document 02, card 1, "Speed"). Assumes nothing.
use Rattle.std.specs.Prelude.{ℕ, ◌+◌, ◌*◌, cond, List, get_or, ltb, eqb, None, Option, Some}
use Rattle.std.specs.Int.Bits.{bit_xor}
use Rattle.hash.specs.Bytes.{Id, u32_at}
use Rattle.hashtable.specs.Table.{id_of, home_of}
use Rattle.odb.specs.Lookup.{entry_id, entry_body}
use Rattle.commitgraph.specs.Graph.{id_in, row_in, parent_in}
use Rattle.commitgraph.specs.declared.Layout.{Layout}

-- the hint of the slot at place k of the line, where it has n slots; past them another number
abbrev pub near_at : List ℕ → ℕ → ℕ → ℕ → ℕ → ℕ
near_at line from n k other = cond (ltb k n) (get_or line (2 * get_or line (from + k) 0 + 1) 0) other

-- the words of a slot's id and cell
abbrev pub slot_words : ℕ → List ℕ → List ℕ → ℕ → ℕ
slot_words width names line s = bit_xor (u32_at (id_of width names s) 0) (get_or line (s + s) 0)

-- those of the slot at place k of the line
abbrev pub place_words : ℕ → List ℕ → List ℕ → ℕ → ℕ → ℕ → ℕ
place_words width names line from n k = cond (ltb k n) (slot_words width names line (get_or line (from + k) 0)) 0

-- the slot where the search for an id begins, and the words of the mark and the cell there
abbrev pub start_of : Id → ℕ → ℕ
start_of x cap = cond (eqb cap 0) 0 (home_of x cap)

abbrev pub home_words : List ℕ → List ℕ → ℕ → ℕ
home_words marks line s = bit_xor (get_or marks s 0) (get_or line (s + s) 0)

-- a word of each of a body's first four lines of memory
abbrev pub body_words : List ℕ → ℕ
body_words b = bit_xor (bit_xor (bit_xor (u32_at b 0) (u32_at b 64)) (u32_at b 128)) (u32_at b 192)

-- the words of the row, the id and the entry at a position
abbrev pub row_words : ℕ → List ℕ → Layout → List ℕ → ℕ → ℕ
row_words width g l s p = bit_xor (bit_xor (u32_at (row_in width g l p) width) (u32_at (id_in width g l p) 0)) (u32_at (entry_id width s p) 0)

-- all that is read ahead: where the parent of the commit in hand will stand, the slot four places on, the body of the next commit, the row of the one
-- after it, and the id of the next one's parent. Past the end of the line the next commit is the parent of the one before it.
abbrev pub words_at : ℕ → List ℕ → List ℕ → List ℕ → ℕ → ℕ → ℕ → ℕ → List ℕ → Layout → List ℕ → ℕ → ℕ → ℕ
words_at width names marks line cap from n k g l s parent one =
    bit_xor
    (bit_xor
    (bit_xor (home_words marks line (start_of (id_in width g l parent) cap)) (place_words width names line from n (k + 4)))
    (bit_xor (body_words (entry_body width s one)) (row_words width g l s (near_at line from n (k + 2) (parent_in width g l one 0)))))
    (u32_at (id_in width g l (parent_in width g l one 0)) 0)

-- from the hint of the commit in hand; without a file nothing
abbrev pub words_ahead : ℕ → Option Layout → List ℕ → List ℕ → List ℕ → ℕ → ℕ → ℕ → ℕ → List ℕ → List ℕ → ℕ → ℕ
words_ahead width (Some l) names marks line cap from n k g s near =
    words_at width names marks line cap from n k g l s (parent_in width g l near 0) (near_at line from n (k + 1) (parent_in width g l near 0))
words_ahead width None names marks line cap from n k g s near = 0

-- a position beside the words: any number is a hint, so where the words come to 1 it is 0
abbrev pub kept_beside : ℕ → ℕ → ℕ
kept_beside words position = cond (eqb words 1) 0 position
