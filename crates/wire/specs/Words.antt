-- A record and the numbers of an answer as words, each a number below 2 ^ 64. Assumes nothing.
use Rattle.std.specs.Prelude.{ℕ, ◌%◌, ◌≤◌, ◌≡◌, refl, Bool, true, false, cond, ◌&&◌, List, [], ◌∷◌, length, get_or, replicate, eqb, leb, ℤ, None, Option, Some}
use Rattle.commitgraph.specs.declared.Level.{Level}
use Rattle.date.specs.declared.Seconds.{Seconds}
use Rattle.hash.specs.Bytes.{pick, set_down}
use Rattle.hash.specs.declared.Kind.{Kind}
use Rattle.hash.specs.declared.Kind.TheVariants.{Sha1, Sha256}
use Rattle.revwalk.specs.declared.queue.Queue.{Queue}
use Rattle.walk.specs.declared.OpenAnswer.{OpenAnswer}
use Rattle.walk.specs.declared.Refusal.TheVariants.{Closed}
use Rattle.walk.specs.Refusals.{number_of}
use Rattle.walk.specs.Given.{Given, level_value}
use Rattle.state.specs.declared.Fixed.{Fixed}
use Rattle.state.specs.declared.Record.{Record}
use Rattle.state.specs.declared.Waiting.{Waiting}
use Rattle.state.specs.Reads.{closed_record}
use Rattle.state.specs.Shapes.{waiting_in}

abbrev pub bit_of : Bool → ℕ
bit_of true = 1
bit_of false = 0

-- the kind of ids by their width (document 02, card 13): 32 is SHA-256, any other number SHA-1
unfoldable pub kind_of : ℕ → Kind
kind_of n = pick (eqb n 32) Sha256 Sha1

-- the word of the kind of ids: 0 for SHA-1, so that a closed record is zeros alone
abbrev pub width_word : Kind → ℕ
width_word Sha1 = 0
width_word Sha256 = 32

-- ---- a record (document 01: one small record of counters)

abbrev pub record_words : ℕ
record_words = 20

-- its words: whether it is open and what has happened, the queue, the two counts, where the graph file's chunks stand, whether its levels are used, and
-- the kind of ids
unfoldable pub words_of : Record → List ℕ
words_of r =
    bit_of r.live ∷ bit_of r.painted ∷ bit_of r.failed ∷ bit_of r.kept
    ∷ bit_of r.queue.timed ∷ bit_of r.queue.newest ∷ r.queue.cap ∷ r.queue.head ∷ r.queue.count ∷ r.queue.next
    ∷ r.admitted ∷ r.struck
    ∷ r.fixed.layout.fan ∷ r.fixed.layout.ids ∷ r.fixed.layout.rows ∷ r.fixed.layout.edge ∷ r.fixed.layout.edges ∷ r.fixed.layout.count
    ∷ bit_of r.fixed.layout.levels ∷ width_word r.fixed.kind ∷ []

pub closed-words : words_of closed_record ≡ replicate record_words 0
unfolding words_of closed_record
closed-words = refl

-- a word past the end is 0, a yes or no is yes where its word is 1, and of the number that the next commit is queued under and of the kind's word the low 32
-- bits count
unfoldable pub queue_of : List ℕ → Queue
queue_of w = record {
  timed = eqb (get_or w 4 0) 1;
  newest = eqb (get_or w 5 0) 1;
  cap = get_or w 6 0;
  head = get_or w 7 0;
  count = get_or w 8 0;
  next = get_or w 9 0 % 4294967296;
}

unfoldable pub fixed_in : List ℕ → Fixed
fixed_in w = record {
  layout = record {
    fan = get_or w 12 0;
    ids = get_or w 13 0;
    rows = get_or w 14 0;
    edge = get_or w 15 0;
    edges = get_or w 16 0;
    count = get_or w 17 0;
    levels = eqb (get_or w 18 0) 1;
  };
  kind = kind_of (get_or w 19 0 % 4294967296);
}

-- the record that words stand for
unfoldable pub record_of : List ℕ → Record
record_of w = record {
  live = eqb (get_or w 0 0) 1;
  painted = eqb (get_or w 1 0) 1;
  failed = eqb (get_or w 2 0) 1;
  kept = eqb (get_or w 3 0) 1;
  fixed = fixed_in w;
  queue = queue_of w;
  admitted = get_or w 10 0;
  struck = get_or w 11 0;
}

-- encode: the record's words set down, where there is room for them they read as that record again
pub record Encodes (r : Record) (words words' : List ℕ) : Type 0 where
  pub is : words' ≡ set_down words 0 (words_of r)
  pub back : record_words ≤ length words → record_of words' ≡ r

-- the words after a call whose outcome has the number n, and which gives the record r back: "12 alters nothing"
abbrev pub words_after : ℕ → Record → List ℕ → List ℕ
words_after n r words = cond (eqb n (number_of Closed)) words (set_down words 0 (words_of r))

pub record PutsRecord (n : ℕ) (r : Record) (words words' : List ℕ) : Type 0 where
  pub is : words' ≡ words_after n r words
  pub back : eqb n (number_of Closed) ≡ false → record_words ≤ length words → record_of words' ≡ r

-- put_waiting: what waits in the record is w, and nothing else is another. Words that are those of their record are then those of the new one; and any words,
-- where there is room, read as it
pub record PutsWaiting (w : Waiting) (words words' : List ℕ) : Type 0 where
  pub is : set_down words 0 (words_of (record_of words)) ≡ words → words' ≡ set_down words 0 (words_of (waiting_in (record_of words) w))
  pub back : record_words ≤ length words → record_of words' ≡ waiting_in (record_of words) w

-- ---- answers

-- "this walk's running numbers of commits admitted …, struck and waiting"
unfoldable pub open_words : OpenAnswer → List ℕ
open_words a = a.admitted ∷ a.struck ∷ a.waiting ∷ []

abbrev pub has_level : Option Level → ℕ
has_level (Some l) = 1
has_level None = 0

abbrev pub has_seconds : Option Seconds → ℕ
has_seconds (Some s) = 1
has_seconds None = 0

abbrev pub has_zone : Option ℤ → ℕ
has_zone (Some m) = 1
has_zone None = 0

-- the same numbers, how many ids stand in parents, whether the answer has a level, the level, whether it has seconds, and whether it has a zone
unfoldable pub answer_words : Given → List ℕ
answer_words a =
    a.admitted ∷ a.struck ∷ a.waiting ∷ a.info.parents ∷ has_level a.info.generation ∷ level_value a.info.generation ∷ has_seconds a.info.time
    ∷ has_zone a.info.zone ∷ []

-- ---- room

-- for the record's words and an opening's three numbers
unfoldable pub room_to_open : List ℕ → List ℕ → Bool
room_to_open words numbers = leb record_words (length words) && leb 3 (length numbers)

-- for the record's words, and a call's id of this width, eight numbers, and seconds and zone
unfoldable pub room_to_call : ℕ → List ℕ → List ℕ → List ℕ → List ℤ → Bool
room_to_call w words id numbers seconds = leb record_words (length words) && leb w (length id) && leb 8 (length numbers) && leb 2 (length seconds)
