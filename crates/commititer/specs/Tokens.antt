-- A header read from its tokens: all tokens of a body in order, and what they make of tree, parents, author and committer
-- (document 01, "Header lines"). `proofs/Agree.antt` shows that it is the header that crate `object` reads, and that the tokens are all good
-- just where the header is. Assumes nothing.
use Rattle.std.specs.Prelude.{◌≡◌, ℕ, zero, suc, ◌*◌, Bool, true, false, ◌&&◌, List, [], ◌∷◌, length, take, drop, ltb, leb, None, Option, Some, Ok, Err}
use Rattle.hash.specs.Bytes.{Id, if_some, pick, set_down}
use Rattle.object.specs.Ids.{id_in}
use Rattle.object.specs.Header.{is_some, Stamped, seconds_in, zone_in, Header, most, seconds_of, header}
use Rattle.object.specs.Read.{reading_of, Reading}
use Rattle.object.specs.declared.ObjectId.{ObjectId}
use Rattle.commititer.specs.Token.{start, token_at, after_token}
use Rattle.commititer.specs.declared.Place.{Place}
use Rattle.commititer.specs.declared.Token.{Token}
use Rattle.commititer.specs.declared.Token.TheVariants.{Tree, Parent, Author, Committer, Bad, End}

-- the tokens from a place on, at most n of them
unfoldable pub tokens_from : ℕ → ℕ → List ℕ → Place → List Token
tokens_from zero w b p = []
tokens_from (suc n) w b p = token_at w b p ∷ tokens_from n w b (after_token w b p)

-- a body's tokens: no line is shorter than a byte, so that as many as it has bytes are all
unfoldable pub tokens : ℕ → List ℕ → List Token
tokens w b = tokens_from (length b) w b start

abbrev pub is_tree : Token → Bool
is_tree Tree = true
is_tree (Parent x) = false
is_tree Author = false
is_tree (Committer s) = false
is_tree Bad = false
is_tree End = false

abbrev pub is_parent : Token → Bool
is_parent Tree = false
is_parent (Parent x) = true
is_parent Author = false
is_parent (Committer s) = false
is_parent Bad = false
is_parent End = false

abbrev pub is_author : Token → Bool
is_author Tree = false
is_author (Parent x) = false
is_author Author = true
is_author (Committer s) = false
is_author Bad = false
is_author End = false

-- a committer's seconds and zone
abbrev pub stamp_told : Token → Option Stamped
stamp_told Tree = None
stamp_told (Parent x) = None
stamp_told Author = None
stamp_told (Committer s) = Some (record { seconds = s.seconds.0; zone = s.zone })
stamp_told Bad = None
stamp_told End = None

abbrev pub is_bad : Token → Bool
is_bad Tree = false
is_bad (Parent x) = false
is_bad Author = false
is_bad (Committer s) = false
is_bad Bad = true
is_bad End = false

-- a parent's id, none with any other token
abbrev pub id_told : Token → Option ObjectId
id_told Tree = None
id_told (Parent x) = Some x
id_told Author = None
id_told (Committer s) = None
id_told Bad = None
id_told End = None

-- a parent's id set down as number k of a list of ids, where it fits; with any other token nothing is changed
abbrev pub parent_down : ℕ → ℕ → Token → List ℕ → List ℕ
parent_down w k t b = if_some (id_told t) b (λ x. set_down b (w * k) (id_in w x.bytes))

-- ---- what the tokens come to

-- the parents at the front of a list of tokens, and the tokens after them
unfoldable pub parents_of : ℕ → List Token → List Id
parents_of w [] = []
parents_of w (t ∷ ts) = let r = parents_of w ts in if_some (id_told t) [] (λ x. id_in w x.bytes ∷ r)

unfoldable pub past_parents : List Token → List Token
past_parents [] = []
past_parents (t ∷ ts) = let r = past_parents ts in pick (is_parent t) r (t ∷ ts)

-- an author comes next; a committer comes next; an author and then a committer
abbrev pub author_next : List Token → Bool
author_next [] = false
author_next (t ∷ ts) = is_author t

abbrev pub committer_next : List Token → Option Stamped
committer_next [] = None
committer_next (t ∷ ts) = stamp_told t

abbrev pub persons_next : List Token → Option Stamped
persons_next [] = None
persons_next (t ∷ ts) = pick (is_author t) (committer_next ts) None

-- what the tokens after a tree come to, and all tokens
abbrev pub after_tree_token : ℕ → List Token → Header
after_tree_token w ts = record {
  tree = true;
  ids = take most (parents_of w ts);
  crowded = ltb most (length (parents_of w ts));
  author = leb (length (parents_of w ts)) most && author_next (past_parents ts);
  seconds = seconds_in (persons_next (past_parents ts));
  zone = zone_in (persons_next (past_parents ts));
}

abbrev pub no_header : Header
no_header = record { tree = false; ids = []; crowded = false; author = false; seconds = None; zone = None }

abbrev pub header_of : ℕ → List Token → Header
header_of w [] = no_header
header_of w (t ∷ ts) = pick (is_tree t) (after_tree_token w ts) no_header

-- the two readings agree
abbrev pub Agrees : ℕ → List ℕ → Type 0
Agrees w b = header_of w (tokens w b) ≡ header w b

-- ---- good tokens are a good header

-- no bad line is met; a committer is reached
unfoldable pub no_bad : List Token → Bool
no_bad [] = true
no_bad (t ∷ ts) = let r = no_bad ts in pick (is_bad t) false r

unfoldable pub has_committer : List Token → Bool
has_committer [] = false
has_committer (t ∷ ts) = let r = has_committer ts in pick (is_some (stamp_told t)) true r

abbrev pub all_good : List Token → Bool
all_good ts = no_bad ts && has_committer ts

-- a body whose tokens meet no bad line and reach a committer is just one whose "four parts hold": a tree, parents (however many), an
-- author and a committer, in this order and each good
abbrev pub GoodTokens : ℕ → List ℕ → Type 0
GoodTokens w b = all_good (tokens w b) ≡ is_some (seconds_of w b)

-- "A commit is readable if all four parts hold and it has at most 256 parents", by its tokens
abbrev pub is_readable : Reading → Bool
is_readable (Ok r) = true
is_readable (Err e) = false

abbrev pub ReadableTokens : ℕ → List ℕ → Type 0
ReadableTokens w b = is_readable (reading_of (header w b)) ≡ (all_good (tokens w b) && leb (length (parents_of w (drop 1 (tokens w b)))) most)

-- opens every definition of this file, for theorems that compute
unfoldable pub tokens_all : Unit {0}
unfolding tokens_from tokens parents_of past_parents no_bad has_committer
tokens_all = tt
