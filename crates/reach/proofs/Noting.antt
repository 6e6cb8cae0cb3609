-- Ids are noted in lent memory: the list that the memory reads as grows by those that were not there. Assumes nothing.
use Rattle.std.specs.Prelude.{None, Option, Some}
use mathlib.Core.Path.{◌≡◌, refl, sym, ◌∙◌, ap, subst}
use mathlib.Core.Logic.{⊎_elim}
use Prim.Native.Nat.{ℕ, ◌+◌, ◌≤◌, ◌<◌}
use mathlib.Core.Bool.{Bool, true, false, not}
use mathlib.Core.List.Memᴰ
use mathlib.Core.List.{List, [], ◌∷◌, ◌++◌}
use native.Mathlib.Omega.{arith}
use lib.ListN.{length, take, drop, get_or, set, length-append, length-set, take-append-drop, get_or-append}
use lib.Seq.{take_all, get_or-append-add, get_or-set_same, get_or-set_other}
use Rattle.hash.specs.Bytes.{Id}
use Rattle.hash.proofs.Tests.{clash}
use Rattle.hashtable.specs.Table.{Holds, mark_for}
use Rattle.hashtable.proofs.TableRoom.{within, room}
use Rattle.walk.specs.Reach.{Mem}
use Rattle.walk.proofs.Named.{fits}
use Rattle.object.specs.Header.{Header, header}
use Rattle.object.specs.Ids.{id_in, id_room}
use Rattle.object.specs.declared.ObjectId.{ObjectId}
use Rattle.reading.specs.Body.{parent_id_at}
use Rattle.reading.proofs.IdLists.{one_more}
use Rattle.reading.proofs.Lines.{parent-right}
use Rattle.reading.proofs.ByValue.{id_in-width, parent_length}
use Rattle.reach.specs.declared.notes.Marking.{Marking}
use Rattle.reach.specs.declared.notes.Marking.TheVariants.{Fresh, Known, Full}
use Rattle.reach.specs.Memory.{has_bit, Lent, lent, mark_in, Lists, Named, Spares, Gained, MarksId, Puts, Went, Told, Notes, NotedAfter, NotesNext, AllNoted, NotesAll, NotesOne, NotesParents}
use Rattle.reach.proofs.Growth.{same_id?, mem-end, nodup_end, last-place, grows_none, grows-known, grows-new, grows_then}
use Rattle.reach.proofs.MarkBits.{bit_with, other_with, bit_not_0}

-- ---- what is left as it was

pub spares-none : (width : ℕ) (second : Bool) (cap from : ℕ) (m : Lent) → Spares width second cap from m m
spares-none width second cap from m = record { other_bit = λ y. refl; stays = λ y k h. h; below = λ j h. refl }

pub spares_then : {width : ℕ} {second : Bool} {cap from : ℕ} {a b c : Lent} → Spares width second cap from a b → Spares width second cap from b c → Spares width second cap from a c
spares_then p q = record {
  other_bit = λ y. q.other_bit y ∙ p.other_bit y;
  stays = λ y k h. q.stays y k (p.stays y k h);
  below = λ j h. q.below j h ∙ p.below j h;
}

-- ---- the list stays within u

pub listed_in : {width : ℕ} {second : Bool} {cap from : ℕ} {u : List Id} {m : Lent} {n : ℕ} {l : List Id} → Lists width second cap from m n l → Named width cap u m → (x : Id) → Mem x l → Mem x u
listed_in {width} {second} {cap} {from} {u} {m} h n x k = n.inside x (bit_not_0 second (mark_in width cap m x) (h.marked x k))

pub listed-few : {width : ℕ} {second : Bool} {cap from : ℕ} {u : List Id} {m : Lent} {n : ℕ} {l : List Id} → Lists width second cap from m n l → Named width cap u m → n ≤ cap
listed-few {u = u} {l = l} h n = omega (arith, fits l u h.once (λ x k. listed_in h n x k), h.count, n.few)

-- ---- one id

module _ {width : ℕ} {second : Bool} {cap from : ℕ} {names marks names' marks' line : List ℕ} {n : ℕ} {x : Id} where
  -- it was new to the search
  module _ {slot : ℕ} (o : MarksId width second names marks names' marks' cap x (Fresh slot)) where
    module _ {u l : List Id} (h : Lists width second cap from (lent names marks line) n l) (d : Named width cap u (lent names marks line)) (mem : Mem x u) where
      gained : Gained width second names marks names' marks' cap x slot
      gained = o.right h.table d.small

      absent : Mem x l → ⊥
      absent k = clash (h.marked x k) gained.lacked

      longer : n + 1 ≤ cap
      longer =
          let f = fits (l ++ (x ∷ [])) u (nodup_end h.once absent) (λ y k. ⊎_elim (listed_in h d y) (λ j. subst (λ (z : Id). Mem z u) (sym (Memᴰ.eq_of_singleton j)) mem) (Memᴰ.append_cases l k)) in
          omega (arith, f, length-append l (x ∷ []), h.count, d.few)

      roomy : from + n < length line
      roomy = omega (arith, longer, h.room)

      this-bit : has_bit second (mark_for width false names' marks' cap x) ≡ true
      this-bit = ap (has_bit second) gained.this ∙ bit_with second (mark_for width false names marks cap x)

      at_new : get_or (l ++ (x ∷ [])) n [] ≡ x
      at_new = let e : n ≡ length l + 0 = omega (arith, h.count) in ap (λ (i : ℕ). get_or (l ++ (x ∷ [])) i []) e ∙ get_or-append-add l (x ∷ []) 0 []

      went : {line' : List ℕ} → line' ≡ set line (from + n) slot → Went width second cap from u (lent names marks line) (lent names' marks' line') l (x ∷ []) (n + 1)
      went {line'} e = record {
        list = l ++ (x ∷ []);
        grows = grows-new l x;
        lists = record {
          table = gained.table;
          room = omega (arith, ap length e, length-set line (from + n) slot, h.room);
          count = omega (arith, length-append l (x ∷ []), h.count);
          once = nodup_end h.once absent;
          slots = λ i k. ⊎_elim
              (λ p. subst (λ (z : ℕ). Holds width false names' marks' cap (get_or (l ++ (x ∷ [])) i []) z) (sym (ap (λ (b : List ℕ). get_or b (from + i) 0) e ∙ get_or-set_other line (from + n) (from + i) slot 0 (λ q. omega arith)))
              (subst (λ (z : Id). Holds width false names' marks' cap z (get_or line (from + i) 0)) (sym (get_or-append l (x ∷ []) [] i (omega (arith, h.count))))
              (gained.stays (get_or l i []) (get_or line (from + i) 0) (h.slots i p))))
              (λ q. subst (λ (z : ℕ). Holds width false names' marks' cap (get_or (l ++ (x ∷ [])) z []) (get_or line' (from + z) 0)) (sym q)
              (subst (λ (z : ℕ). Holds width false names' marks' cap (get_or (l ++ (x ∷ [])) n []) z) (sym (ap (λ (b : List ℕ). get_or b (from + n) 0) e ∙ get_or-set_same line (from + n) slot 0 roomy))
              (subst (λ (z : Id). Holds width false names' marks' cap z slot) (sym at_new) gained.holds)))
              (last-place i n (omega arith));
          marked = λ y k. ⊎_elim
              (λ q. subst (λ (z : Id). has_bit second (mark_for width false names' marks' cap z) ≡ true) (sym q) this-bit)
              (λ q. ap (has_bit second) (gained.other y q) ∙ ⊎_elim (h.marked y) (λ j. absurd (q (Memᴰ.eq_of_singleton j))) (Memᴰ.append_cases l k))
              (same_id? y x);
          all = λ y k. ⊎_elim
              (λ q. subst (λ (z : Id). Mem z (l ++ (x ∷ []))) (sym q) (mem-end x l))
              (λ q. Memᴰ.append_left (x ∷ []) (h.all y (sym (ap (has_bit second) (gained.other y q)) ∙ k)))
              (same_id? y x);
        };
        named = record {
          few = d.few;
          small = d.small;
          inside = λ y k. ⊎_elim (λ q. subst (λ (z : Id). Mem z u) (sym q) mem) (λ q. d.inside y (λ z. k (gained.other y q ∙ z))) (same_id? y x);
        };
        spares = record {
          other_bit = λ y. ⊎_elim
              (λ q. ap (λ (z : Id). has_bit (not second) (mark_for width false names' marks' cap z)) q ∙ ap (has_bit (not second)) gained.this ∙ other_with second (mark_for width false names marks cap x)
              ∙ ap (λ (z : Id). has_bit (not second) (mark_for width false names marks cap z)) (sym q))
              (λ q. ap (has_bit (not second)) (gained.other y q))
              (same_id? y x);
          stays = λ y k g. gained.stays y k g;
          below = λ j k. ap (λ (b : List ℕ). get_or b j 0) e ∙ get_or-set_other line (from + n) j slot 0 (λ q. omega arith);
        };
      }

    pub note-fresh : {line' : List ℕ} {r : Option ℕ} → Puts line line' from n slot r → Notes width second cap from (lent names marks line) (lent names' marks' line') n x r
    note-fresh {line'} {r} p = record {
      right = λ u l h d w mem.
          let q = p.right (roomy h d mem) in
          subst (λ (a : Option ℕ). Told width second cap from u (lent names marks line) (lent names' marks' line') l (x ∷ []) a) (sym q.0) (went h d mem q.1);
    }

  pub note-known : MarksId width second names marks names' marks' cap x Known → Notes width second cap from (lent names marks line) (lent names' marks' line) n x (Some n)
  note-known o = record {
    right = λ u l h d w mem.
        let a = o.right h.table d.small in
        subst (λ (b : List ℕ). Went width second cap from u (lent names marks line) (lent b marks' line) l (x ∷ []) n) (sym a.1)
        (subst (λ (b : List ℕ). Went width second cap from u (lent names marks line) (lent names b line) l (x ∷ []) n) (sym a.2)
        (record { list = l; grows = grows-known (h.all x a.0); lists = h; named = d; spares = spares-none width second cap from (lent names marks line) }));
  }

  pub note-full : MarksId width second names marks names' marks' cap x Full → Notes width second cap from (lent names marks line) (lent names' marks' line) n x None
  note-full o = record {
    right = λ u l h d w mem. room u h.table (o.right h.table d.small) w d.few (within d.inside) mem refl;
  }

module _ {width : ℕ} {second : Bool} {cap : ℕ} {names marks names' marks' : List ℕ} {x : Id} {q : Marking} (o : MarksId width second names marks names' marks' cap x q) where
  pub on-fresh : {from n : ℕ} {line line' : List ℕ} {slot : ℕ} {r : Option ℕ} → q ≡ Fresh slot → Puts line line' from n slot r → Notes width second cap from (lent names marks line) (lent names' marks' line') n x r
  on-fresh e p = note-fresh (subst (λ (a : Marking). MarksId width second names marks names' marks' cap x a) e o) p

module _ (width : ℕ) (second : Bool) (cap from : ℕ) {names marks names' marks' : List ℕ} (line : List ℕ) (n : ℕ) {x : Id} {q : Marking} (o : MarksId width second names marks names' marks' cap x q) where
  pub on-known : q ≡ Known → Notes width second cap from (lent names marks line) (lent names' marks' line) n x (Some n)
  on-known e = note-known (subst (λ (a : Marking). MarksId width second names marks names' marks' cap x a) e o)

  pub on-full : q ≡ Full → Notes width second cap from (lent names marks line) (lent names' marks' line) n x None
  on-full e = note-full (subst (λ (a : Marking). MarksId width second names marks names' marks' cap x a) e o)

-- ---- after an answer

pub next-count : {width : ℕ} {second : Bool} {cap from : ℕ} {m m' : Lent} {past : Option ℕ} {n : ℕ} {x : Id} {r : Option ℕ} → past ≡ Some n → Notes width second cap from m m' n x r → NotesNext width second cap from m m' past x r
next-count {width} {second} {cap} {from} {m} {m'} {past} {n} {x} {r} e o = subst (λ (a : Option ℕ). NotesNext width second cap from m m' a x r) (sym e) (record { does = o })

pub next-none : (width : ℕ) (second : Bool) (cap from : ℕ) (m : Lent) {past : Option ℕ} (x : Id) → past ≡ None → NotesNext width second cap from m m past x None
next-none width second cap from m x e = subst (λ (a : Option ℕ). NotesNext width second cap from m m a x None) (sym e) (record { does = (refl, refl) })

-- ---- one after another

pub told-then : {width : ℕ} {second : Bool} {cap from : ℕ} {u : List Id} {m₀ m : Lent} (m' : Lent) {l xs : List Id} (ys : List Id) {n : ℕ} (r : Option ℕ) (g : Went width second cap from u m₀ m l xs n)
    → Told width second cap from u m m' g.list ys r → Told width second cap from u m₀ m' l (xs ++ ys) r
told-then m' ys (Some n') g t = record { list = t.list; grows = grows_then g.grows t.grows; lists = t.lists; named = t.named; spares = spares_then g.spares t.spares }
told-then m' ys None g t = t

pub all_first : (width : ℕ) (second : Bool) (cap from : ℕ) (m : Lent) (past : Option ℕ) → AllNoted width second cap from m m past [] past
all_first width second cap from m (Some n) = λ u l h d i. record { list = l; grows = grows_none l; lists = h; named = d; spares = spares-none width second cap from m }
all_first width second cap from m None = (refl, refl)

pub all-next : (width : ℕ) (second : Bool) (cap from : ℕ) (m₀ m m' : Lent) (xs : List Id) (x : Id) (past r r' : Option ℕ) → AllNoted width second cap from m₀ m past xs r → NotedAfter width second cap from m m' r x r' → length x ≡ width
    → AllNoted width second cap from m₀ m' past (xs ++ (x ∷ [])) r'
all-next width second cap from m₀ m m' xs x (Some n₀) (Some n) r' a b w = λ u l h d i.
    let g = a u l h d (λ y k. i y (Memᴰ.append_left (x ∷ []) k)) in
    told-then m' (x ∷ []) r' g (b.right u g.list g.lists g.named w (i x (mem-end x xs)))
all-next width second cap from m₀ m m' xs x (Some n₀) None r' a b w = λ u l h d i. absurd (a u l h d (λ y k. i y (Memᴰ.append_left (x ∷ []) k)))
all-next width second cap from m₀ m m' xs x None (Some n) r' a b w = let e = a.1 in let z : ◌≡◌ {A = ℕ} 0 1 = cc in absurd (omega arith)
all-next width second cap from m₀ m m' xs x None None r' a b w = (b.0 ∙ a.0, b.1)

-- two lists, one after the other
both-noted : (width : ℕ) (second : Bool) (cap from : ℕ) (m₀ m m' : Lent) (n : ℕ) (xs ys : List Id) (q r : Option ℕ) → AllNoted width second cap from m₀ m (Some n) xs q → AllNoted width second cap from m m' q ys r → AllNoted width second cap from m₀ m' (Some n) (xs ++ ys) r
both-noted width second cap from m₀ m m' n xs ys (Some k) r a b = λ u l h d i.
    let g = a u l h d (λ y j. i y (Memᴰ.append_left ys j)) in
    told-then m' ys r g (b u g.list g.lists g.named (λ y j. i y (Memᴰ.append_right xs j)))
both-noted width second cap from m₀ m m' n xs ys None r a b = λ u l h d i. absurd (a u l h d (λ y j. i y (Memᴰ.append_left ys j)))

pub notes-then : {width : ℕ} {second : Bool} {cap from : ℕ} {m₀ m m' : Lent} {n : ℕ} {xs ys : List Id} {q r : Option ℕ} → NotesAll width second cap from m₀ m (Some n) xs q → NotesAll width second cap from m m' q ys r → NotesAll width second cap from m₀ m' (Some n) (xs ++ ys) r
notes-then {width} {second} {cap} {from} {m₀} {m} {m'} {n} {xs} {ys} {q} {r} a b = record { does = both-noted width second cap from m₀ m m' n xs ys q r a.does b.does }

-- ---- the first i ids of a list

-- the lengths of the buffers do not change
pub record Long (m₀ m : Lent) : Type 0 where
  pub names : length m.names ≡ length m₀.names
  pub marks : length m.marks ≡ length m₀.marks
  pub line : length m.line ≡ length m₀.line

pub long-none : (m : Lent) → Long m m
long-none m = record { names = refl; marks = refl; line = refl }

pub long-then : {a b d : Lent} → Long a b → Long b d → Long a d
long-then p q = record { names = q.names ∙ p.names; marks = q.marks ∙ p.marks; line = q.line ∙ p.line }

-- a loop over the list xs, after i turns
pub record Upto (width : ℕ) (second : Bool) (cap from : ℕ) (m₀ m : Lent) (past : Option ℕ) (xs : List Id) (i : ℕ) (r : Option ℕ) : Type 0 where
  pub so_far : AllNoted width second cap from m₀ m past (take i xs) r

pub record Listing (width : ℕ) (second : Bool) (cap from : ℕ) (m₀ m : Lent) (past : Option ℕ) (xs : List Id) (i : ℕ) (r : Option ℕ) : Type 0 where
  pub upto : i ≤ length xs
  pub long : Long m₀ m
  pub begun : Upto width second cap from m₀ m past xs i r

pub upto_first : (width : ℕ) (second : Bool) (cap from : ℕ) (m : Lent) (past : Option ℕ) (xs : List Id) → Upto width second cap from m m past xs 0 past
upto_first width second cap from m past xs = record { so_far = all_first width second cap from m past }

pub upto_next : {width : ℕ} {second : Bool} {cap from : ℕ} {m₀ m m' : Lent} {past : Option ℕ} {xs : List Id} {i : ℕ} {r : Option ℕ} {x : Id} {r' : Option ℕ} → Upto width second cap from m₀ m past xs i r → i < length xs
    → x ≡ get_or xs i [] → length x ≡ width → NotesNext width second cap from m m' r x r' → Upto width second cap from m₀ m' past xs (i + 1) r'
upto_next {width} {second} {cap} {from} {m₀} {m} {m'} {past} {xs} {i} {r} {x} {r'} a h e w b = record {
  so_far = subst (λ (ys : List Id). AllNoted width second cap from m₀ m' past ys r') (sym (one_more xs i h ∙ ap (λ (y : Id). take i xs ++ (y ∷ [])) (sym e)))
      (all-next width second cap from m₀ m m' (take i xs) x past r r' a.so_far b.does w);
}

pub upto_last : {width : ℕ} {second : Bool} {cap from : ℕ} {m₀ m : Lent} {past : Option ℕ} {xs : List Id} {i : ℕ} {r : Option ℕ} → Upto width second cap from m₀ m past xs i r → length xs ≤ i → AllNoted width second cap from m₀ m past xs r
upto_last {width} {second} {cap} {from} {m₀} {m} {past} {xs} {i} {r} a h = subst (λ (ys : List Id). AllNoted width second cap from m₀ m past ys r) (take_all i xs h) a.so_far

pub listing-first : (width : ℕ) (second : Bool) (cap from : ℕ) (m : Lent) (past : Option ℕ) (xs : List Id) → Listing width second cap from m m past xs 0 past
listing-first width second cap from m past xs = record { upto = omega arith; long = long-none m; begun = upto_first width second cap from m past xs }

pub listing-next : {width : ℕ} {second : Bool} {cap from : ℕ} {m₀ m m' : Lent} {past : Option ℕ} {xs : List Id} {i : ℕ} {r : Option ℕ} {x : Id} {r' : Option ℕ} → Listing width second cap from m₀ m past xs i r → i < length xs
    → x ≡ get_or xs i [] → length x ≡ width → Long m m' → NotesNext width second cap from m m' r x r' → Listing width second cap from m₀ m' past xs (i + 1) r'
listing-next a h e w g b = record { upto = omega arith; long = long-then a.long g; begun = upto_next a.begun h e w b }

pub listing-last : {width : ℕ} {second : Bool} {cap from : ℕ} {m₀ m : Lent} {past : Option ℕ} {xs : List Id} {i : ℕ} {r : Option ℕ} → Listing width second cap from m₀ m past xs i r → length xs ≤ i → NotesAll width second cap from m₀ m past xs r
listing-last a h = record { does = upto_last a.begun h }

-- ---- the parents of a header

-- a parent whose line was decoded
pub one_decoded : {width : ℕ} → width ≤ id_room → {second : Bool} {cap from : ℕ} {m m' : Lent} {n k : ℕ} {r : Option ℕ} {x : Id} (b : List ℕ) (z : ObjectId) → z.bytes ≡ parent_id_at width b k → x ≡ id_in width z.bytes
    → Notes width second cap from m m' n x r → NotesOne width second cap from (header width b) m m' n k r
one_decoded {width} small {k = k} {x = x} b z give e o = record {
  id = x;
  is = λ t l. e ∙ ap (id_in width) give ∙ parent-right width small b k t l;
  wide = ap length e ∙ id_in-width width small z.bytes (ap length give ∙ parent_length width b k);
  notes = o;
}

-- a loop over the c parents of h, after i of them: the line had n slots and has `have` now
pub record Passing (width : ℕ) (second : Bool) (cap from : ℕ) (h : Header) (m₀ m : Lent) (n c i have : ℕ) : Type 0 where
  pub upto : i ≤ c
  pub long : Long m₀ m
  pub begun : h.tree ≡ true → c ≡ length h.ids → Upto width second cap from m₀ m (Some n) h.ids i (Some have)

pub passing_first : (width : ℕ) (second : Bool) (cap from : ℕ) (h : Header) (m : Lent) (n c : ℕ) → Passing width second cap from h m m n c 0 n
passing_first width second cap from h m n c = record { upto = omega arith; long = long-none m; begun = λ t e. upto_first width second cap from m (Some n) h.ids }

module _ {width : ℕ} {second : Bool} {cap from : ℕ} {h : Header} {m₀ m m' : Lent} {n c i have : ℕ} {r : Option ℕ} (v : Passing width second cap from h m₀ m n c i have) (l : i < c) (o : NotesOne width second cap from h m m' have i r) where
  -- one more
  upto-one : (a : Option ℕ) → r ≡ a → h.tree ≡ true → c ≡ length h.ids → Upto width second cap from m₀ m' (Some n) h.ids (i + 1) a
  upto-one a e t q = subst (Upto width second cap from m₀ m' (Some n) h.ids (i + 1)) e (upto_next (v.begun t q) (omega arith) (o.is t (omega arith)) o.wide (record { does = o.notes }))

  pub passing_next : Long m m' → {more : ℕ} → r ≡ Some more → Passing width second cap from h m₀ m' n c (i + 1) more
  passing_next k {more} e = record { upto = omega arith; long = long-then v.long k; begun = upto-one (Some more) e }

  -- no room for this one: so none for all of them
  pub passing-short : r ≡ None → NotesParents width second cap from h m₀ m' n c None
  passing-short e = record {
    right = λ t q u l' a d j. (upto-one None e t q).so_far u l' a d (λ x p. j x (subst (λ (z : List Id). Mem x z) (take-append-drop (i + 1) h.ids) (Memᴰ.append_left (drop (i + 1) h.ids) p)));
  }

pub passing_last : {width : ℕ} {second : Bool} {cap from : ℕ} {h : Header} {m₀ m : Lent} {n c i have : ℕ} → Passing width second cap from h m₀ m n c i have → c ≤ i → NotesParents width second cap from h m₀ m n c (Some have)
passing_last v l = record { right = λ t e. upto_last (v.begun t e) (omega arith) }
