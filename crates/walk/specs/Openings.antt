-- Openings that are refused, one for each of document 01's numbers 1 to 8. Each has every fault that is tested later as well, so the order is
-- shown too: "in order 2 to 6, 1, 7, 8". Assumes nothing.
use Rattle.std.specs.Prelude.{◌≡◌, refl, ℕ, List, [], ◌∷◌, ◌++◌, replicate, None, Option, Some}
use Rattle.hash.specs.Bytes.{bytes_all}
use Rattle.idlist.specs.IdList.{id_list_all}
use Rattle.object.specs.Header.{header_all}
use Rattle.odb.specs.Store.{store_all}
use Rattle.commitgraph.specs.Graph.{graph_all}
use Rattle.walk.specs.Refusals.{number_of}
use Rattle.walk.specs.Opening.{Input, Lengths, room_for, Opening, closed, opened, open_walk}
use Rattle.walk.specs.Calls.{walk_all}
use Rattle.walk.specs.Runs.{id_for, u32, names, all, newest, id_wide, names_wide}

-- the number of a refused opening; none of an accepted one
unfoldable pub opening_number : Opening → Option ℕ
opening_number (closed r) = Some (number_of r)
opening_number (opened st) = None

-- an opening under a time order, with these files, tips and lengths of the lent buffers
unfoldable pub opens_by : List ℕ → List ℕ → List ℕ → Lengths → Option ℕ
unfolding opening_number all
opens_by store graph tips l =
    let i : Input = record { store = store; graph = graph; tips = tips; hidden = []; excluded = []; settings = all newest } in
    opening_number (open_walk i (room_for i l))

-- enough for two tips and a store below 48 bytes (P = 2); and with one byte of parents missing, too short for any input
abbrev pub enough : Lengths
enough = record { names = 40; marks = 2; levels = 2; times = 2; line = 10; parents = 5120 }

abbrev pub short : Lengths
short = record { names = 40; marks = 2; levels = 2; times = 2; line = 10; parents = 5119 }

-- a store of commit 1 alone, whose body is one byte: no header line is good
unfoldable pub blurred : List ℕ
unfolding id_wide u32
blurred = 120 ∷ (id_for 1 ++ (u32 1 ++ (u32 1 ++ u32 1)))

-- `CGPH`, version 1, hash version 1, no chunk, base count 0, and nothing more
unfoldable pub head_alone : List ℕ
head_alone = 67 ∷ 71 ∷ 80 ∷ 72 ∷ 1 ∷ 1 ∷ 0 ∷ 0 ∷ []

-- the same of a graph file with ids of 32 bytes
unfoldable pub wide_head : List ℕ
wide_head = 67 ∷ 71 ∷ 80 ∷ 72 ∷ 1 ∷ 2 ∷ 0 ∷ 0 ∷ []

-- one byte is a foreign graph file, and no bytes are a torn store; commit 9 is in no store
pub record EachRefused : Type 0 where
  pub oversize : opens_by [] (0 ∷ []) (replicate 20481 0) short ≡ Some 2
  pub ragged_list : opens_by [] (0 ∷ []) (0 ∷ []) short ≡ Some 3
  pub torn-store : opens_by [] (0 ∷ []) (names (9 ∷ 1 ∷ [])) short ≡ Some 4
  pub foreign-graph : opens_by blurred (0 ∷ []) (names (9 ∷ 1 ∷ [])) short ≡ Some 5
  pub other_width : opens_by blurred wide_head (names (9 ∷ 1 ∷ [])) short ≡ Some 5
  pub torn-graph : opens_by blurred head_alone (names (9 ∷ 1 ∷ [])) short ≡ Some 6
  pub short-memory : opens_by blurred [] (names (9 ∷ 1 ∷ [])) short ≡ Some 1
  -- "the first tip at fault in list order decides which"
  pub lost_tip : opens_by blurred [] (names (9 ∷ 1 ∷ [])) enough ≡ Some 7
  pub blurred_tip : opens_by blurred [] (names (1 ∷ 9 ∷ [])) enough ≡ Some 8
  -- and with no fault
  pub accepted : opens_by blurred [] [] enough ≡ None

pub each-refused : EachRefused
unfolding opens_by blurred head_alone wide_head names_wide bytes_all id_list_all header_all store_all graph_all walk_all
each-refused = record {
  oversize = refl;
  ragged_list = refl;
  torn-store = refl;
  foreign-graph = refl;
  other_width = refl;
  torn-graph = refl;
  short-memory = refl;
  lost_tip = refl;
  blurred_tip = refl;
  accepted = refl;
}
