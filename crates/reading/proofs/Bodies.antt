-- The parents of a body read in one pass: under a good tree line the ids that stand end to end are the header's first ones, as many as there are parent
-- lines so far; and where no more stands, or one too many, the reading ends as the header says. Assumes nothing.
use Rattle.std.specs.Prelude.{Option}
use mathlib.Core.Path.{◌≡◌, refl, sym, ap, ◌∙◌}
use Prim.Native.Nat.{ℕ, suc, ◌+◌, ◌*◌, ◌≤◌, ◌<◌}
use mathlib.Core.Bool.{Bool, true, false, cond, not, ◌&&◌}
use mathlib.Core.List.{List, [], ◌∷◌, ◌++◌}
use native.Mathlib.Omega.{arith}
use native.Mathlib.Nat.{mul-suc, mul-zero}
use lib.Dec.{eqb, ltb}
use lib.ListN.{length, take, get_or, length-append, length-take}
use lib.Seq.{length-take-le, take-suc, take_all}
use borrow.Author.Tests.{eqb-true, eqb-false, ltb-true, ltb-false}
use Rattle.hash.specs.Bytes.{Id, if_some, pick, set_down}
use Rattle.hash.proofs.Bytes.{length_set_down}
use Rattle.hash.proofs.Tests.{by_cases, clash}
use Rattle.hash.proofs.Widths.{apart}
use Rattle.object.specs.declared.ObjectId.{ObjectId}
use Rattle.object.specs.Ids.{id_room, padded, id_in}
use Rattle.object.specs.Header.{Header, header, most}
use Rattle.object.proofs.IdBytes.{id_in_lem}
use Rattle.object.proofs.Headers.{header_lines, no_header, parent-width}
use Rattle.walk.specs.declared.Settings.{Settings}
use Rattle.walk.specs.Settings.{only_first, followed}
use Rattle.walk.specs.State.{is_empty}
use Rattle.walk.specs.Next.{ending}
use Rattle.walk.specs.Given.{joined}
use Rattle.commititer.specs.Token.{here, token_at, parents_place}
use Rattle.commititer.specs.declared.Place.{Place}
use Rattle.commititer.specs.declared.State.TheVariants.{Parents as ParentLines}
use Rattle.commititer.specs.Tokens.{is_parent, is_author, id_told, parent_down}
use Rattle.commititer.specs.declared.Token.{Token}
use Rattle.commititer.specs.declared.Token.TheVariants.{Parent}
use Rattle.commititer.proofs.Agree.{a-parent, no-id}
use Rattle.commititer.proofs.ByHeader.{parent-token, parent-told, crowd-told, stop-told}
use Rattle.reading.specs.Body.{end_of, refusal_of, most_read, PutsParents, IsCrowded, EndsAfter, ReadsBody}
use Rattle.reading.specs.declared.body.BodyEnd.{BodyEnd}
use Rattle.reading.specs.declared.body.BodyEnd.TheVariants.{Whole, Unreadable, Crowded}
use Rattle.reading.proofs.Down.{joined_snoc, set_down-none, set_down-next, set_down-past}
use Rattle.reading.proofs.Lines.{ending-tree, ending_stopped, ending-read}

-- ---- the ids, set down end to end

-- the ids of the first k parents of d stand at the start of b', which is else as b was
pub record Putting (w : ℕ) (d b b' : List ℕ) (k : ℕ) : Type 0 where
  pub same_length : length b' ≡ length b
  pub within : (header w d).tree ≡ true → k ≤ length (header w d).ids
  pub long : (header w d).tree ≡ true → length (joined (take k (header w d).ids)) ≡ w * k
  pub down : (header w d).tree ≡ true → w * most ≤ length b → b' ≡ set_down b 0 (joined (take k (header w d).ids))
  pub past : (j : ℕ) → w * k ≤ j → get_or b' j 0 ≡ get_or b j 0

pub putting_none : (w : ℕ) (d b : List ℕ) → Putting w d b b 0
unfolding joined
putting_none w d b = record {
  same_length = refl;
  within = λ g. omega arith;
  long = λ g. sym (mul-zero w);
  down = λ g h. set_down-none b;
  past = λ j h. refl;
}

narrow : (w : ℕ) (o : List ℕ) → length (id_in w o) ≤ w
unfolding id_in
narrow w o = simp length-take (omega arith)

pub few-read : (first : Bool) → most_read first ≤ most
few-read true = omega arith
few-read false = omega arith

-- the token at the place that `parents_place` gives
pub at_place : (w : ℕ) (d : List ℕ) (k : ℕ) {q : Place} → q ≡ parents_place w k → token_at w d (here q.at ParentLines) ≡ token_at w d (parents_place w k)
unfolding parents_place
at_place w d k e = ap (λ (r : Place). token_at w d (here r.at ParentLines)) e

module _ {w : ℕ} (small : w ≤ id_room) {d b b' : List ℕ} {k : ℕ} (p : Putting w d b b' k) {t : Token} (read : t ≡ token_at w d (parents_place w k)) where
  -- another parent
  pub putting-next : (first : Bool) {b'' : List ℕ} → k < most_read first → is_parent t ≡ true → b'' ≡ parent_down w k t b' → Putting w d b b'' (k + 1)
  putting-next first {b''} less stands put = record {
    same_length = ap length placed ∙ length_set_down b' (w * k) (id_in w x.bytes) ∙ p.same_length;
    within = λ g. omega (arith, there g);
    long = λ g. ap length (more g) ∙ simp length-append (omega (arith, p.long g, ap length (is g), parent-width w d g k (there g), next));
    down = λ g h.
        let y : List ℕ = joined (take k (header w d).ids) in
        let l : length y + length (get_or (header w d).ids k []) ≤ length b = omega (arith, p.long g, parent-width w d g k (there g), apart w few, h) in
        placed
        ∙ ap (set_down b' (w * k)) (is g)
        ∙ ap (λ (c : List ℕ). set_down c (w * k) (get_or (header w d).ids k [])) (p.down g h)
        ∙ ap (λ (j : ℕ). set_down (set_down b 0 y) j (get_or (header w d).ids k [])) (sym (p.long g))
        ∙ set_down-next b y (get_or (header w d).ids k []) l
        ∙ ap (set_down b 0) (sym (more g));
    past = λ j h. ap (λ (c : List ℕ). get_or c j 0) placed ∙ set_down-past b' (w * k) (id_in w x.bytes) j (omega (arith, h, next, narrow w x.bytes)) ∙ p.past j (omega (arith, h, next));
  }
    where
      few : k < most
      few = omega (arith, less, few-read first)

      next : w * (k + 1) ≡ w * k + w
      next = let n : k + 1 ≡ suc k = omega arith in ap (λ (j : ℕ). w * j) n ∙ mul-suc w k

      x : ObjectId
      x = (a-parent t stands).0

      token : t ≡ Parent x
      token = (a-parent t stands).1

      placed : b'' ≡ set_down b' (w * k) (id_in w x.bytes)
      placed = put ∙ ap (λ (r : Token). parent_down w k r b') token

      there : (header w d).tree ≡ true → k < length (header w d).ids
      there g = parent-told w small d g k (p.within g) read few stands

      is : (g : (header w d).tree ≡ true) → id_in w x.bytes ≡ get_or (header w d).ids k []
      is g =
          let same : Parent x ≡ Parent (record { bytes = padded (get_or (header w d).ids k []) }) = sym token ∙ read ∙ parent-token w small d g k (there g) in
          let id : x ≡ record { bytes = padded (get_or (header w d).ids k []) } = cc in
          ap (λ (y : ObjectId). id_in w y.bytes) id
          ∙ id_in_lem w (get_or (header w d).ids k []) (parent-width w d g k (there g)) small

      more : (header w d).tree ≡ true → joined (take (k + 1) (header w d).ids) ≡ joined (take k (header w d).ids) ++ get_or (header w d).ids k []
      more g =
          let n : k + 1 ≡ suc k = omega arith in
          ap (λ (j : ℕ). joined (take j (header w d).ids)) n
          ∙ ap joined (take-suc (header w d).ids k [] (there g))
          ∙ joined_snoc (take k (header w d).ids) (get_or (header w d).ids k [])

  -- no other parent
  pub putting-stop : (first : Bool) {b'' : List ℕ} → k < most_read first → is_parent t ≡ false → b'' ≡ parent_down w k t b' → PutsParents w first d b b'' k
  putting-stop first {b''} less none-stands put = record {
    count = λ g.
        let s = (stop-told w small d g k (p.within g) read none-stands).0 in
        s ∙ ap length (sym (take_all (most_read first) (header w d).ids (omega (arith, s, less))));
    down = λ g h. kept ∙ p.down g h;
    past = λ j h. ap (λ (c : List ℕ). get_or c j 0) kept ∙ p.past j h;
  }
    where
      kept : b'' ≡ b'
      kept = put ∙ ap (λ (o : Option ObjectId). if_some o b' (λ x. set_down b' (w * k) (id_in w x.bytes))) (no-id t none-stands)

-- as many as are read at most
pub putting_full : {w : ℕ} {d b b' : List ℕ} {k : ℕ} (first : Bool) → Putting w d b b' k → k ≡ most_read first → PutsParents w first d b b' k
putting_full {w} {d} {b} {b'} {k} first p e = record {
  count = λ g. sym (ap (λ (j : ℕ). length (take j (header w d).ids)) (sym e) ∙ length-take-le k (header w d).ids (p.within g));
  down = p.down;
  past = p.past;
}

-- ---- after the last of them

pub not-crowded : (w : ℕ) (d : List ℕ) (k : ℕ) → k < most → IsCrowded (header w d) k false
not-crowded w d k less = record {
  is = λ g e. by_cases (header w d).crowded (λ c. absurd (omega (arith, e, (header_lines w d g).full c, less))) (λ c. sym c);
}

module _ {w : ℕ} (small : w ≤ id_room) (d : List ℕ) (k : ℕ) {t : Token} (read : t ≡ token_at w d (parents_place w k)) where
  pub crowded-told : most ≤ k → IsCrowded (header w d) k (is_parent t)
  crowded-told many = record {
    is = λ g e.
        by_cases (is_parent t)
        (λ y. y ∙ sym (crowd-told w small d g k (omega (arith, e)) read many y).1)
        (λ n. n ∙ sym (stop-told w small d g k (omega (arith, e)) read n).1);
  }

  -- no parent stands there: the author decides
  module _ (g : (header w d).tree ≡ true) (e : k ≡ length (header w d).ids) (c : (header w d).crowded ≡ false) where
    no-parent : is_parent t ≡ false
    no-parent =
        by_cases (is_parent t)
        (λ y.
        by_cases (ltb k most)
        (λ l. absurd (omega (arith, e, parent-told w small d g k (omega (arith, e)) read (ltb-true k most l) y)))
        (λ l. clash (crowd-told w small d g k (omega (arith, e)) read (ltb-false k most l) y).1 c))
        (λ n. n)

    author-is : is_author t ≡ (header w d).author
    author-is = (stop-told w small d g k (omega (arith, e)) read no-parent).2

pub ends-crowded : {h : Header} {k : ℕ} {r : Bool} → IsCrowded h k r → r ≡ true → EndsAfter h k Crowded
unfolding end_of
ends-crowded {h} i y = record { is = λ g e. sym (ap (λ (c : Bool). pick c Crowded (pick h.author Whole Unreadable)) (sym (i.is g e) ∙ y)) }

pub ends_by_author : {w : ℕ} (small : w ≤ id_room) (d : List ℕ) (k : ℕ) {t : Token} (read : t ≡ token_at w d (parents_place w k)) {r : Bool} → IsCrowded (header w d) k r → r ≡ false
    → (a : Bool) → a ≡ is_author t → EndsAfter (header w d) k (pick a Whole Unreadable)
unfolding end_of
ends_by_author {w} small d k {t} read i n a f = record {
  is = λ g e.
      let c : (header w d).crowded ≡ false = sym (i.is g e) ∙ n in
      ap (λ (b : Bool). pick b Whole Unreadable) (f ∙ author-is small d k read g e c) ∙ sym (ap (λ (b : Bool). pick b Crowded (pick (header w d).author Whole Unreadable)) c);
}

-- ---- what the mode follows, and how the reading ends

pub followed-all : {A : Type 0} (s : Settings) (l : List A) → only_first s ≡ false → followed s l ≡ l
unfolding followed
followed-all s l e = ap (λ (b : Bool). cond b (take 1 l) l) e

pub followed-one : {A : Type 0} (s : Settings) (l : List A) → only_first s ≡ true → followed s l ≡ take 1 l
unfolding followed
followed-one s l e = ap (λ (b : Bool). cond b (take 1 l) l) e

-- what is read is what is followed
read-followed : (s : Settings) (l : List Id) → length l ≤ most → (first : Bool) → only_first s ≡ first → take (most_read first) l ≡ followed s l
read-followed s l few true e = sym (followed-one s l e)
read-followed s l few false e = take_all most l few ∙ sym (followed-all s l e)

-- a bad tree line leaves no parents
pub no-ids : (w : ℕ) (d : List ℕ) → (header w d).tree ≡ false → (header w d).ids ≡ []
no-ids w d g = ap (λ (h : Header). h.ids) (no_header w d g)

followed-none : (s : Settings) → length (followed {A = Id} s []) ≡ 0
followed-none s = by_cases (only_first s) (λ e. ap length (followed-one s [] e)) (λ e. ap length (followed-all s [] e))

pub reads-bad : (w : ℕ) (first : Bool) (d b : List ℕ) → (header w d).tree ≡ false → ReadsBody w first (header w d) b b (record { parents = 0; ends = Unreadable })
unfolding joined
reads-bad w first d b g = record {
  parents = λ s o. sym (ap (λ (l : List Id). length (followed s l)) (no-ids w d g) ∙ followed-none s);
  ends = λ s o. sym (ending-tree s (header w d) g);
  down = λ h. set_down-none b;
  past = λ k h. refl;
}

module _ {w : ℕ} {first : Bool} {d b b' : List ℕ} {n : ℕ} (g : (header w d).tree ≡ true) (p : PutsParents w first d b b' n) where
  parents-read : (s : Settings) → only_first s ≡ first → n ≡ length (followed s (header w d).ids)
  parents-read s o = p.count g ∙ ap length (read-followed s (header w d).ids (header_lines w d g).few first o)

  -- the first alone
  pub reads_first : (first && eqb n 1) ≡ true → ReadsBody w first (header w d) b b' (record { parents = n; ends = Whole })
  unfolding is_empty
  reads_first y = record {
    parents = parents-read;
    ends = λ s o. go first refl (header w d).ids refl s o;
    down = p.down g;
    past = p.past;
  }
    where
      go : (f : Bool) → first ≡ f → (l : List Id) → (header w d).ids ≡ l → (s : Settings) → only_first s ≡ first → refusal_of Whole ≡ ending s (header w d)
      go false i l m s o = clash y (ap (λ (c : Bool). c && eqb n 1) i)
      go true i [] m s o =
          let z : n ≡ 1 = eqb-true n 1 (sym (ap (λ (c : Bool). c && eqb n 1) i) ∙ y) in
          absurd (omega (arith, z, parents-read s o ∙ ap (λ (c : List Id). length (followed s c)) m ∙ followed-none s))
      go true i (x ∷ l) m s o = sym (ending_stopped s (header w d) g (rw (o, i, m)))

  -- all of them, or none where only the first is followed
  pub reads_on : (first && eqb n 1) ≡ false → {e : BodyEnd} → EndsAfter (header w d) n e → ReadsBody w first (header w d) b b' (record { parents = n; ends = e })
  unfolding is_empty
  reads_on more {e} a = record {
    parents = parents-read;
    ends = λ s o. go first refl (header w d).ids refl s o;
    down = p.down g;
    past = p.past;
  }
    where
      by_end : (s : Settings) → (only_first s && not (is_empty (header w d).ids)) ≡ false → n ≡ length (header w d).ids → refusal_of e ≡ ending s (header w d)
      by_end s i m = ap refusal_of (a.is g m) ∙ sym (ending-read s (header w d) g i)

      go : (f : Bool) → first ≡ f → (l : List Id) → (header w d).ids ≡ l → (s : Settings) → only_first s ≡ first → refusal_of e ≡ ending s (header w d)
      go false i l m s o =
          by_end s (ap (λ (c : Bool). c && not (is_empty (header w d).ids)) (o ∙ i)) (parents-read s o ∙ ap length (followed-all s (header w d).ids (o ∙ i)))
      go true i [] m s o = by_end s (rw (o, i, m)) (parents-read s o ∙ ap (λ (c : List Id). length (followed s c)) m ∙ followed-none s ∙ sym (ap length m))
      go true i (x ∷ l) m s o =
          let z : n ≡ 1 = parents-read s o ∙ ap length (followed-one s (header w d).ids (o ∙ i)) ∙ ap (λ (c : List Id). length (take 1 c)) m in
          absurd (eqb-false n 1 (sym (ap (λ (c : Bool). c && eqb n 1) i) ∙ more) z)
