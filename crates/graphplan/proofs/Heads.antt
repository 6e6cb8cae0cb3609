-- What a readable header says: its tree line and its parent lines are good, none comes after 256, and its seconds are the committer's. Assumes nothing.
use Rattle.object.specs.declared.HeaderError.TheVariants.{Bad, Crowded}
use Rattle.std.specs.Prelude.{None, Option, Some, Ok, Err}
use mathlib.Core.Path.{◌≡◌, refl, sym, ◌∙◌, ap}
use mathlib.Core.Bool.{Bool, true, false}
use mathlib.Core.List.{List}
use Prim.Native.Nat.{ℕ, ◌+◌, ◌*◌}
use lib.ListN.{length, drop}
use lib.IntN.{ℤ, nat_abs}
use Rattle.hash.specs.Bytes.{Id, pick, if_some}
use Rattle.hash.proofs.Tests.{clash}
use Rattle.date.specs.declared.Stamp.{Stamp}
use Rattle.object.specs.Header.{header, is_some, id_line, parent_word, tree_size, parent_size, stamped, seconds_of}
use Rattle.object.specs.Read.{reading_of, read_as, Reading, readable_as}
use Rattle.object.proofs.Headers.{HeaderLines, header_lines}
use Rattle.object.proofs.Stamps.{header_stamp}
use Rattle.levels.specs.StoreGraph.{lines_in}
use Rattle.levels.proofs.Lines.{after_last}
use Rattle.graphplan.specs.StoreRows.{is_readable, readable_body, seconds_size, fit_seconds, fit_time}
use Rattle.graphplan.specs.Entries.{head_given, head_read}
use Rattle.graphplan.specs.declared.entry.Head.{Head}

count_in : Reading → ℕ
count_in (Ok r) = r.parents
count_in (Err e) = 0

secs_in : Reading → Option ℤ
secs_in (Ok r) = Some r.stamp.seconds.0
secs_in (Err e) = None

record Inverted (t c : Bool) (o : Option ℤ) (m n : ℕ) (s : Stamp) : Type 0 where
  tree : t ≡ true
  few : c ≡ false
  count : m ≡ n
  seconds : o ≡ Some s.seconds.0

inverts : (t c a : Bool) (o z : Option ℤ) (m n : ℕ) (s : Stamp) → pick t (pick c (Err Crowded) (pick a (read_as m (stamped o z)) (Err Bad))) (Err Bad) ≡ readable_as n s → Inverted t c o m n s
unfolding count_in secs_in
inverts false c a o z m n s e = clash {b = true} refl (sym (ap is_readable e))
inverts true true a o z m n s e = clash {b = true} refl (sym (ap is_readable e))
inverts true false false o z m n s e = clash {b = true} refl (sym (ap is_readable e))
inverts true false true None z m n s e = clash {b = true} refl (sym (ap is_readable e))
inverts true false true (Some x) z m n s e = record { tree = refl; few = refl; count = ap count_in e; seconds = ap secs_in e }

-- what is known of a body whose header is readable
pub record ReadBody (w : ℕ) (b : List ℕ) (n : ℕ) (s : Stamp) : Type 0 where
  pub tree : (header w b).tree ≡ true
  pub ids : (header w b).ids ≡ (lines_in w b).ids
  pub more : (lines_in w b).more ≡ false
  pub count : n ≡ length (lines_in w b).ids
  pub seconds : seconds_of w b ≡ Some s.seconds.0

pub read-body : (w : ℕ) (b : List ℕ) (n : ℕ) (s : Stamp) → reading_of (header w b) ≡ readable_as n s → ReadBody w b n s
unfolding reading_of lines_in
read-body w b n s e =
    let h = header w b in
    let i : Inverted h.tree h.crowded h.seconds (length h.ids) n s = inverts h.tree h.crowded h.author h.seconds h.zone (length h.ids) n s e in
    let l : HeaderLines w b h = header_lines w b i.tree in
    let r : h.ids ≡ (lines_in w b).ids = l.run in
    record {
      tree = i.tree;
      ids = r;
      more = sym (after_last w b) ∙ sym (ap (λ (x : List Id). is_some (id_line w parent_word (drop (tree_size w + parent_size w * length x) b))) r) ∙ sym l.next ∙ i.few;
      count = sym i.count ∙ ap length r;
      seconds = sym (header_stamp w b).0 ∙ i.seconds;
    }

-- what is read of it for its row
pub record HeadTold (w : ℕ) (b : List ℕ) (h : Head) : Type 0 where
  pub readable : readable_body w b ≡ true
  pub more : (lines_in w b).more ≡ false
  pub count : h.parents ≡ length (lines_in w b).ids
  pub seconds : h.seconds ≡ seconds_size w b
  pub fits : h.fits ≡ fit_time w b
  pub tree : (header w b).tree ≡ true

head_in : Option Head → Head
head_in (Some h) = h
head_in None = record { parents = 0; seconds = 0; fits = false }

pub head-told : (w : ℕ) (b : List ℕ) (h : Head) → head_read w b ≡ Some h → HeadTold w b h
unfolding head_read readable_body seconds_size fit_time head_in
head-told w b h e = go (reading_of (header w b)) refl e
  where
    go : (r : Reading) → reading_of (header w b) ≡ r → head_given r ≡ Some h → HeadTold w b h
    go (Err r) d e = clash {b = true} refl (sym (ap is_some e))
    go (Ok r) d e =
        let t = read-body w b r.parents r.stamp d in
        record {
          readable = ap is_readable d;
          more = t.more;
          count = sym (ap (λ (o : Option Head). (head_in o).parents) e) ∙ t.count;
          seconds = sym (ap (λ (o : Option Head). (head_in o).seconds) e) ∙ sym (ap (λ (o : Option ℤ). if_some o 0 nat_abs) t.seconds);
          fits = sym (ap (λ (o : Option Head). (head_in o).fits) e) ∙ sym (ap (λ (o : Option ℤ). if_some o false fit_seconds) t.seconds);
          tree = t.tree;
        }

pub head-none : (w : ℕ) (b : List ℕ) → head_read w b ≡ None → readable_body w b ≡ false
unfolding head_read readable_body
head-none w b e = go (reading_of (header w b)) refl e
  where
    go : (r : Reading) → reading_of (header w b) ≡ r → head_given r ≡ None → is_readable (reading_of (header w b)) ≡ false
    go (Err r) d h = ap is_readable d
    go (Ok r) d h = clash {b = true} refl (ap is_some h)

-- a body that is readable has a head
pub head-some : (w : ℕ) (b : List ℕ) → readable_body w b ≡ true → head_read w b ≡ None → ⊥
head-some w b r e = clash r (head-none w b e)
