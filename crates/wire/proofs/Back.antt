-- A record comes back from its words: each field is read at the place where its word stands, a yes is 1, the number that the next commit is
-- queued under is below 2 ^ 32, and either kind comes back from its word. Assumes nothing.
use mathlib.Core.Path.{◌≡◌, refl, ◌∙◌, ap}
use Prim.Native.Nat.{ℕ, ◌+◌, ◌%◌, ◌≤◌, ◌<◌}
use mathlib.Core.Bool.{Bool, true, false}
use mathlib.Core.List.{List, [], ◌++◌}
use native.Mathlib.Omega.{arith}
use lib.ListN.{length, drop}
use lib.Dec.{eqb}
use Rattle.hash.specs.Bytes.{set_down}
use Rattle.hash.specs.declared.Kind.{Kind}
use Rattle.hash.specs.declared.Kind.TheVariants.{Sha1, Sha256}
use Rattle.hash.proofs.Bytes.{set_down-fits}
use Rattle.revwalk.specs.declared.queue.Queue.{Queue}
use Rattle.state.specs.declared.Record.{Record}
use Rattle.wire.specs.Words.{kind_of, width_word, bit_of, record_words, words_of, queue_of, fixed_in, record_of}

bit_back : (b : Bool) → eqb (bit_of b) 1 ≡ b
bit_back true = refl
bit_back false = refl

kind-back : (kind : Kind) → kind_of (width_word kind % 4294967296) ≡ kind
unfolding kind_of
kind-back Sha1 = refl
kind-back Sha256 = refl

-- the queue that is read from a queue's words
abbrev pub queue_again : Queue → Queue
queue_again q = record {
  timed = eqb (bit_of q.timed) 1;
  newest = eqb (bit_of q.newest) 1;
  cap = q.cap;
  head = q.head;
  count = q.count;
  next = q.next % 4294967296;
}

pub queue-back : (q : Queue) → q.next < 4294967296 → queue_again q ≡ q
queue-back q h =
    let low : q.next % 4294967296 ≡ q.next = omega arith in
    λ k. record { timed = bit_back q.timed k; newest = bit_back q.newest k; cap = q.cap; head = q.head; count = q.count; next = low k }

-- whatever words stand after them
pub words_back : (r : Record) (rest : List ℕ) → r.queue.next < 4294967296 → record_of (words_of r ++ rest) ≡ r
unfolding words_of queue_of fixed_in record_of
words_back r rest h =
    λ k. record {
      live = bit_back r.live k;
      painted = bit_back r.painted k;
      failed = bit_back r.failed k;
      kept = bit_back r.kept k;
      fixed = record {
        layout = record {
          fan = r.fixed.layout.fan;
          ids = r.fixed.layout.ids;
          rows = r.fixed.layout.rows;
          edge = r.fixed.layout.edge;
          edges = r.fixed.layout.edges;
          count = r.fixed.layout.count;
          levels = bit_back r.fixed.layout.levels k;
        };
        kind = kind-back r.fixed.kind k;
      };
      queue = queue-back r.queue h k;
      admitted = r.admitted;
      struck = r.struck;
    }

-- `record_of` undoes `words_of`
pub round_trip : (r : Record) → r.queue.next < 4294967296 → record_of (words_of r) ≡ r
unfolding words_of
round_trip r h = words_back r [] h

-- a record set down in lent words, with room for all of them, is read back from them
pub set_down-back : (w : List ℕ) (r : Record) → r.queue.next < 4294967296 → record_words ≤ length w → record_of (set_down w 0 (words_of r)) ≡ r
unfolding words_of
set_down-back w r h n = ap record_of (set_down-fits w 0 (words_of r) (omega arith)) ∙ words_back r (drop (0 + record_words) w) h
