-- Document 01's runs, as theorems over the bytes of a commit store: its starred runs in one joint statement, one of them with SHA-256
-- ids, the skewed clock, the absent parent. Assumes nothing.
use Rattle.std.specs.Prelude.{◌≡◌, refl, ℕ, ◌+◌, ◌/◌, ◌%◌, cond, List, [], ◌∷◌, ◌++◌, length, replicate, ltb, pos, None, Some}
use Rattle.hash.specs.Bytes.{Id, width_of, id_bytes, bytes_all}
use Rattle.idlist.specs.IdList.{id_list_all}
use Rattle.object.specs.Header.{tree_word, parent_word, author_word, committer_word, header_all}
use Rattle.odb.specs.Store.{store_all}
use Rattle.commitgraph.specs.Graph.{graph_all}
use Rattle.hash.specs.declared.Kind.TheVariants.{Sha1, Sha256}
use Rattle.walk.specs.declared.Settings.{Settings}
use Rattle.walk.specs.declared.Sorting.{Sorting}
use Rattle.walk.specs.declared.Sorting.TheVariants.{BreadthFirst, ByCommitTime, ByCommitTimeCutoff}
use Rattle.walk.specs.declared.CommitTimeOrder.TheVariants.{NewestFirst, OldestFirst}
use Rattle.walk.specs.declared.Parents.TheVariants.{All, First}
use Rattle.walk.specs.declared.Refusal.TheVariants.{CommitNotFound}
use Rattle.walk.specs.Opening.{Input}
use Rattle.walk.specs.Next.{Kind, end, refused, handed, Answer}
use Rattle.walk.specs.Calls.{answers, walk_all}

-- ---- a commit store from a history

-- a commit: a number below 256 that stands for its id, its seconds below 100, its parents' numbers
pub record Commit : Type 0 where
  pub name : ℕ
  pub time : ℕ
  pub from : List ℕ

-- the id that stands for a number: this byte, as often as an id is wide
unfoldable pub id_wide : ℕ → ℕ → Id
id_wide w n = replicate w n

-- a SHA-1 id, as in all runs but one
abbrev pub id_for : ℕ → Id
id_for = id_wide id_bytes

-- hexadecimal digits in lower case
unfoldable pub digit : ℕ → ℕ
digit d = cond (ltb d 10) (d + 48) (d + 87)

unfoldable pub hexes : List ℕ → List ℕ
unfolding digit
hexes [] = []
hexes (x ∷ xs) = digit (x / 16) ∷ digit (x % 16) ∷ hexes xs

-- a big-endian u32
unfoldable pub u32 : ℕ → List ℕ
u32 n = n / 16777216 % 256 ∷ (n / 65536 % 256) ∷ (n / 256 % 256) ∷ (n % 256) ∷ []

-- `A <a> `, and after the seconds ` +0000`
unfoldable pub who : List ℕ
who = 65 ∷ 32 ∷ 60 ∷ 97 ∷ 62 ∷ 32 ∷ []

unfoldable pub zone : List ℕ
zone = 32 ∷ 43 ∷ 48 ∷ 48 ∷ 48 ∷ 48 ∷ []

-- one or two decimal digits
unfoldable pub decimal : ℕ → List ℕ
unfolding digit
decimal n = cond (ltb n 10) (digit n ∷ []) (digit (n / 10) ∷ digit (n % 10) ∷ [])

unfoldable pub parents_text : ℕ → List ℕ → List ℕ
unfolding id_wide hexes
parents_text w [] = []
parents_text w (p ∷ ps) = parent_word ++ (hexes (id_wide w p) ++ (10 ∷ parents_text w ps))

-- a commit's body: a tree of zeros, its parents, author and committer `A <a> SECONDS +0000`, a blank line
unfoldable pub body_of : ℕ → Commit → List ℕ
unfolding parents_text id_wide hexes who zone decimal
body_of w c =
    tree_word ++ (hexes (id_wide w 0) ++ (10 ∷ (parents_text w c.from
    ++ (author_word ++ (who ++ (decimal c.time ++ (zone ++ (10 ∷ (committer_word ++ (who ++ (decimal c.time ++ (zone ++ (10 ∷ 10 ∷ [])))))))))))))

unfoldable pub bodies_of : ℕ → List Commit → List ℕ
unfolding body_of
bodies_of w [] = []
bodies_of w (c ∷ cs) = body_of w c ++ bodies_of w cs

unfoldable pub entries_of : ℕ → ℕ → List Commit → List ℕ
unfolding body_of u32 id_wide
entries_of w e [] = []
entries_of w e (c ∷ cs) = let f = e + length (body_of w c) in id_wide w c.name ++ (u32 f ++ entries_of w f cs)

-- the commit store of commits by rising name
unfoldable pub store_wide : ℕ → List Commit → List ℕ
unfolding bodies_of entries_of u32
store_wide w cs = let b = bodies_of w cs in b ++ (entries_of w 0 cs ++ (u32 (length b) ++ u32 (length cs)))

abbrev pub store_of : List Commit → List ℕ
store_of = store_wide id_bytes

-- ---- what a run says

unfoldable pub names_wide : ℕ → List ℕ → List ℕ
unfolding id_wide
names_wide w [] = []
names_wide w (n ∷ ns) = id_wide w n ++ names_wide w ns

abbrev pub names : List ℕ → List ℕ
names = names_wide id_bytes

unfoldable pub input : List ℕ → List ℕ → List ℕ → List ℕ → Settings → Input
unfolding names_wide
input store tips hidden excluded s =
    let w = width_of s.kind in
    record { store = store; graph = []; tips = names_wide w tips; hidden = names_wide w hidden; excluded = names_wide w excluded; settings = s }

-- the kinds of answers: what was handed out, refused, or that the walk is at its end
unfoldable pub kinds : List Answer → List Kind
kinds [] = []
kinds (a ∷ rest) = a.kind ∷ kinds rest

-- what k calls say on a store with tips, hidden tips and excluded ids
unfoldable pub says : List ℕ → List ℕ → List ℕ → List ℕ → Settings → ℕ → List Kind
unfolding kinds input
says store tips hidden excluded s k = kinds (answers (input store tips hidden excluded s) k)

-- commit n is handed out: with no level, as it comes from the store, and without seconds (breadth order, First)
abbrev pub out : ℕ → Kind
out n = handed (id_for n) None None

-- commit n is handed out under a time order: with the seconds t that it was queued with
abbrev pub out_at : ℕ → ℕ → Kind
out_at n t = handed (id_for n) None (Some (pos t))

unfoldable pub all : Sorting → Settings
all s = record { sorting = s; parents = All; kind = Sha1 }

unfoldable pub first_only : Sorting → Settings
first_only s = record { sorting = s; parents = First; kind = Sha1 }

abbrev pub newest : Sorting
newest = ByCommitTime NewestFirst

abbrev pub oldest : Sorting
oldest = ByCommitTime OldestFirst

abbrev pub newest_from : ℕ → Sorting
newest_from c = ByCommitTimeCutoff NewestFirst (record { 0 = pos c })

-- ---- the eight starred runs

-- "8→6,7; 7→4; 6→5; 5→3; 4→2; 3→1; 2→1", "numbers as seconds"
unfoldable pub sample_wide : ℕ → List ℕ
unfolding store_wide
sample_wide w = store_wide w (
    record { name = 1; time = 1; from = [] } ∷ record { name = 2; time = 2; from = 1 ∷ [] } ∷ record { name = 3; time = 3; from = 1 ∷ [] }
    ∷ record { name = 4; time = 4; from = 2 ∷ [] } ∷ record { name = 5; time = 5; from = 3 ∷ [] } ∷ record { name = 6; time = 6; from = 5 ∷ [] }
    ∷ record { name = 7; time = 7; from = 4 ∷ [] } ∷ record { name = 8; time = 8; from = 6 ∷ 7 ∷ [] } ∷ [])

abbrev pub sample : List ℕ
sample = sample_wide id_bytes

-- in it each number is the seconds too
abbrev pub dated : ℕ → Kind
dated n = out_at n n

-- and so under a SHA-256 id
abbrev pub wide : ℕ → Kind
wide n = handed (id_wide (width_of Sha256) n) None (Some (pos n))

-- "*breadth 8 6 7 5 4 3 2 1; *newest 8 7 6 5 4 3 2 1; *oldest 8 6 5 3 1 7 4 2; *cutoff 4 newest 8 7 6 5 4; *First 8 6 5 3 1; *hide 5,
-- breadth 8 6 7 4 2; *bar 6, breadth 8 7 4 2 1; *tips 7, 6, 7: 7 6 4 5 2 3 1." Each is followed by end, and end again
pub record Runs : Type 0 where
  pub breadth_run : says sample (8 ∷ []) [] [] (all BreadthFirst) 10 ≡ out 8 ∷ out 6 ∷ out 7 ∷ out 5 ∷ out 4 ∷ out 3 ∷ out 2 ∷ out 1 ∷ end ∷ end ∷ []
  pub newest_run : says sample (8 ∷ []) [] [] (all newest) 10 ≡ dated 8 ∷ dated 7 ∷ dated 6 ∷ dated 5 ∷ dated 4 ∷ dated 3 ∷ dated 2 ∷ dated 1 ∷ end ∷ end ∷ []
  pub oldest_run : says sample (8 ∷ []) [] [] (all oldest) 10 ≡ dated 8 ∷ dated 6 ∷ dated 5 ∷ dated 3 ∷ dated 1 ∷ dated 7 ∷ dated 4 ∷ dated 2 ∷ end ∷ end ∷ []
  pub cutoff_run : says sample (8 ∷ []) [] [] (all (newest_from 4)) 7 ≡ dated 8 ∷ dated 7 ∷ dated 6 ∷ dated 5 ∷ dated 4 ∷ end ∷ end ∷ []
  pub first_run : says sample (8 ∷ []) [] [] (first_only BreadthFirst) 7 ≡ out 8 ∷ out 6 ∷ out 5 ∷ out 3 ∷ out 1 ∷ end ∷ end ∷ []
  pub hide_run : says sample (8 ∷ []) (5 ∷ []) [] (all BreadthFirst) 7 ≡ out 8 ∷ out 6 ∷ out 7 ∷ out 4 ∷ out 2 ∷ end ∷ end ∷ []
  pub exclude_run : says sample (8 ∷ []) [] (6 ∷ []) (all BreadthFirst) 7 ≡ out 8 ∷ out 7 ∷ out 4 ∷ out 2 ∷ out 1 ∷ end ∷ end ∷ []
  pub tips_run : says sample (7 ∷ 6 ∷ 7 ∷ []) [] [] (all BreadthFirst) 9 ≡ out 7 ∷ out 6 ∷ out 4 ∷ out 5 ∷ out 2 ∷ out 3 ∷ out 1 ∷ end ∷ end ∷ []

pub runs : Runs
unfolding says all first_only sample_wide bytes_all id_list_all header_all store_all graph_all walk_all
runs = record {
  breadth_run = refl;
  newest_run = refl;
  oldest_run = refl;
  cutoff_run = refl;
  first_run = refl;
  hide_run = refl;
  exclude_run = refl;
  tips_run = refl;
}

-- ---- the same history with SHA-256 ids

-- "hide 5" by falling seconds: the commits are the same, each under its wider id
pub wide_run : says (sample_wide (width_of Sha256)) (8 ∷ []) (5 ∷ []) [] (record { sorting = newest; parents = All; kind = Sha256 }) 7
    ≡ wide 8 ∷ wide 7 ∷ wide 6 ∷ wide 4 ∷ wide 2 ∷ end ∷ end ∷ []
unfolding says sample_wide bytes_all id_list_all header_all store_all graph_all walk_all
wide_run = refl

-- ---- further runs

-- "Seconds a 10, h 9, c 8, m 3, s 1; a→c,m; h→m; m→s; s→c": 1 is a, 2 h, 3 c, 4 m, 5 s; the pair doesn't fall from s to c
unfoldable pub skewed : List ℕ
unfolding store_wide
skewed = store_of (
    record { name = 1; time = 10; from = 3 ∷ 4 ∷ [] } ∷ record { name = 2; time = 9; from = 4 ∷ [] } ∷ record { name = 3; time = 8; from = [] }
    ∷ record { name = 4; time = 3; from = 5 ∷ [] } ∷ record { name = 5; time = 1; from = 3 ∷ [] } ∷ [])

-- "Tip at second 5, its parent absent"
unfoldable pub lost : List ℕ
unfolding store_wide
lost = store_of (record { name = 1; time = 5; from = 9 ∷ [] } ∷ [])

pub record Further : Type 0 where
  -- "Hide 8, or no tips: end."
  pub hide_tip : says sample (8 ∷ []) (8 ∷ []) [] (all BreadthFirst) 2 ≡ end ∷ end ∷ []
  pub no-tips : says sample [] [] [] (all BreadthFirst) 2 ≡ end ∷ end ∷ []
  -- "Tip a, hide h: a, c come out though h reaches c."
  pub skewed_run : says skewed (1 ∷ []) (2 ∷ []) [] (all BreadthFirst) 4 ≡ out 1 ∷ out 3 ∷ end ∷ end ∷ []
  -- "newest, cutoff 0: the tip, then refusal 9; cutoff 1: silently dropped"
  pub lost_run : says lost (1 ∷ []) [] [] (all (newest_from 0)) 3 ≡ out_at 1 5 ∷ refused CommitNotFound ∷ end ∷ []
  pub dropped_run : says lost (1 ∷ []) [] [] (all (newest_from 1)) 3 ≡ out_at 1 5 ∷ end ∷ end ∷ []

pub further : Further
unfolding says all sample_wide skewed lost bytes_all id_list_all header_all store_all graph_all walk_all
further = record { hide_tip = refl; no-tips = refl; skewed_run = refl; lost_run = refl; dropped_run = refl }
