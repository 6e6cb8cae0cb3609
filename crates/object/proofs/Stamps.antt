-- Laws of the committer reading: a stamp is its seconds and its zone. Its seconds are the number after the last `>` whatever follows
-- it, so the zone decides of no commit whether it is readable; where there are no seconds there is no zone. Assumes nothing.
use Rattle.std.specs.Prelude.{None, Option, Some}
use mathlib.Core.Path.{◌≡◌, refl, ap, sym, ◌∙◌}
use Prim.Native.Nat.{ℕ}
use mathlib.Core.List.{List}
use native.Mathlib.Omega.{arith}
use lib.ListN.{length}
use lib.IntN.{ℤ}
use Rattle.hash.specs.Bytes.{Id, if_some}
use Rattle.hash.proofs.Tests.{no-some}
use Rattle.actor.specs.Person.{line_seconds, line_zone}
use Rattle.object.specs.Header.{id_line, tree_word, committer_word, word_line, author_line, skip_parents, Stamped, stamped, committer_line, after_author, after_tree, stamp_of, seconds_in, zone_in, seconds_of, zone_of, Header, with_tree, header}

-- a reading is its seconds and its zone: a stamp holds nothing else
pub stamp_whole : (o : Option Stamped) → stamped (seconds_in o) (zone_in o) ≡ o
stamp_whole None = refl
stamp_whole (Some s) = refl

-- the seconds are not moved by the zone, since it is only put beside them
pub same-seconds : (s z : Option ℤ) → seconds_in (stamped s z) ≡ s
same-seconds None z = refl
same-seconds (Some v) z = refl

-- no zone without seconds, since then there is no stamp
pub no-zone_in : (o : Option Stamped) → seconds_in o ≡ None → zone_in o ≡ None
no-zone_in None e = refl
no-zone_in (Some s) e = no-some (sym e)

-- ---- "which commits are readable doesn't move"

-- the seconds of a committer line by the bytes after its last `>` alone
abbrev pub committer_seconds : List ℕ → Option ℤ
committer_seconds b = if_some (word_line committer_word b) None (λ t. line_seconds t.0)

pub line-readable : (b : List ℕ) → seconds_in (committer_line b) ≡ committer_seconds b
unfolding committer_line
line-readable b = go (word_line committer_word b)
  where
    go : (o : Option (List ℕ × List ℕ)) → seconds_in (if_some o None (λ t. stamped (line_seconds t.0) (line_zone t.0))) ≡ if_some o None (λ t. line_seconds t.0)
    go None = refl
    go (Some t) = same-seconds (line_seconds t.0) (line_zone t.0)

-- the whole header's seconds: tree line, parent lines, author line, and that committer line
abbrev pub read_seconds : ℕ → List ℕ → Option ℤ
read_seconds w b = if_some (id_line w tree_word b) None (λ t. if_some (author_line (skip_parents w (length b) t.1)) None (λ r. committer_seconds r))

-- line by line the reading is the old one, and the committer line's seconds are the old ones
pub which-readable : (w : ℕ) (b : List ℕ) → seconds_of w b ≡ read_seconds w b
unfolding seconds_of stamp_of
which-readable w b = go (id_line w tree_word b)
  where
    persons : (o : Option (List ℕ)) → seconds_in (after_author o) ≡ if_some o None (λ r. committer_seconds r)
    persons None = refl
    persons (Some r) = line-readable r

    go : (o : Option (Id × List ℕ)) → seconds_in (after_tree w (length b) o) ≡ if_some o None (λ t. if_some (author_line (skip_parents w (length b) t.1)) None (λ r. committer_seconds r))
    go None = refl
    go (Some t) = persons (author_line (skip_parents w (length b) t.1))

-- the zone is none wherever the seconds are
pub zone-none : (w : ℕ) (b : List ℕ) → seconds_of w b ≡ None → zone_of w b ≡ None
unfolding seconds_of zone_of
zone-none w b e = no-zone_in (stamp_of w b) e

-- a header's seconds and zone are those of its committer reading, also where the tree line is bad
pub header_stamp : (w : ℕ) (b : List ℕ) → ((header w b).seconds ≡ seconds_of w b) × ((header w b).zone ≡ zone_of w b)
unfolding header seconds_of zone_of stamp_of
header_stamp w b = go (id_line w tree_word b) refl
  where
    go : (o : Option (Id × List ℕ)) → id_line w tree_word b ≡ o → ((with_tree w b o).seconds ≡ seconds_of w b) × ((with_tree w b o).zone ≡ zone_of w b)
    go None e = (ap (λ (x : Option (Id × List ℕ)). seconds_in (after_tree w (length b) x)) (sym e), ap (λ (x : Option (Id × List ℕ)). zone_in (after_tree w (length b) x)) (sym e))
    go (Some t) e = (refl, refl)

pub header_zone_none : (w : ℕ) (b : List ℕ) → (header w b).seconds ≡ None → (header w b).zone ≡ None
header_zone_none w b e = (header_stamp w b).1 ∙ zone-none w b (sym (header_stamp w b).0 ∙ e)
