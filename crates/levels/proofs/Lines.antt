-- Parent lines stand one after another, each of one length, so that line j stands at its place exactly where j is below the count, for every j up to the
-- count; past it a message may hold the like. Assumes nothing.
use Rattle.std.specs.Prelude.{◌≢◌, None, Some}
use mathlib.Core.Path.{◌≡◌, sym, ◌∙◌, ap}
use mathlib.Core.Bool.{true, false}
use mathlib.Core.List.{List, []}
use Prim.Native.Nat.{ℕ, suc, ◌+◌, ◌*◌, ◌≤◌, ◌<◌}
use native.Mathlib.Omega.{arith}
use lib.ListN.{length, drop, get_or}
use lib.Seq.{drop-drop}
use lib.Dec.{ltb}
use borrow.Author.Tests.{ltb-true, ltb-false, lt-ltb, le-ltb}
use Rattle.hash.proofs.Tests.{by_cases, clash, some_in}
use Rattle.object.specs.Header.{tree_size, parent_size, is_some, id_line, parent_word, most}
use Rattle.object.specs.Ids.{id_room, padded, id_in}
use Rattle.object.specs.Read.{parent_at, id_read}
use Rattle.object.specs.declared.ObjectId.{ObjectId}
use Rattle.object.proofs.Lines.{id_line-some, good-is}
use Rattle.object.proofs.IdBytes.{id_in_lem}
use Rattle.object.proofs.Parents.{Run, parents_run}
use Rattle.levels.specs.StoreGraph.{lines_in, lines_count}

module _ (w : ℕ) (b : List ℕ) where
  run : Run w most (drop (tree_size w) b) (lines_in w b)
  unfolding lines_in
  run = parents_run w most (drop (tree_size w) b)

  there : (j : ℕ) → drop (parent_size w * j) (drop (tree_size w) b) ≡ drop (tree_size w + parent_size w * j) b
  there j = drop-drop (parent_size w * j) (tree_size w) b

  line-there : (j : ℕ) → j < length (lines_in w b).ids
      → id_line w parent_word (drop (tree_size w + parent_size w * j) b) ≡ Some (get_or (lines_in w b).ids j [], drop (parent_size w * suc j) (drop (tree_size w) b))
  line-there j h = ap (id_line w parent_word) (sym (there j)) ∙ run.each j h

  pub after_last : is_some (id_line w parent_word (drop (tree_size w + parent_size w * length (lines_in w b).ids) b)) ≡ (lines_in w b).more
  after_last = ap (λ (c : List ℕ). is_some (id_line w parent_word c)) (sym (there (length (lines_in w b).ids)) ∙ sym run.rest) ∙ sym run.next

  pub count-some : (lines_in w b).more ≡ true → lines_count w b ≡ 257
  unfolding lines_count
  count-some e = rw e (omega (arith, run.full e))

  pub count_none : (lines_in w b).more ≡ false → lines_count w b ≡ length (lines_in w b).ids
  unfolding lines_count
  count_none e = rw e (omega arith)

  pub count_most : lines_count w b ≤ 257
  count_most = by_cases (lines_in w b).more (λ e. omega (arith, count-some e)) (λ e. omega (arith, count_none e, run.few))

  pub lines_few : length (lines_in w b).ids ≤ 256
  lines_few = run.few

  -- below 256 the lines that are counted have ids
  pub line-has-id : (j : ℕ) → j < 256 → j < lines_count w b → j < length (lines_in w b).ids
  line-has-id j a h = by_cases (lines_in w b).more (λ e. omega (arith, run.full e)) (λ e. omega (arith, count_none e))

  pub has-line : (j : ℕ) → j ≤ 256 → j ≤ lines_count w b → is_some (parent_at w b (tree_size w + parent_size w * j)) ≡ ltb j (lines_count w b)
  unfolding parent_at
  has-line j a h =
      good-is (id_line w parent_word (drop (tree_size w + parent_size w * j) b))
      ∙ by_cases (ltb j (length (lines_in w b).ids))
      (λ e. let l : j < length (lines_in w b).ids = ltb-true j (length (lines_in w b).ids) e in
      ap is_some (line-there j l) ∙ sym (lt-ltb j (lines_count w b) (counted-less l)))
      (λ e. let l : length (lines_in w b).ids ≤ j = ltb-false j (length (lines_in w b).ids) e in last l)
    where
      counted-less : j < length (lines_in w b).ids → j < lines_count w b
      counted-less l = by_cases (lines_in w b).more (λ e. omega (arith, count-some e)) (λ e. omega (arith, count_none e))

      at-end : j ≡ length (lines_in w b).ids → is_some (id_line w parent_word (drop (tree_size w + parent_size w * j) b)) ≡ (lines_in w b).more
      at-end z = ap (λ (k : ℕ). is_some (id_line w parent_word (drop (tree_size w + parent_size w * k) b))) z ∙ after_last

      last : length (lines_in w b).ids ≤ j → is_some (id_line w parent_word (drop (tree_size w + parent_size w * j) b)) ≡ ltb j (lines_count w b)
      last l =
          by_cases (lines_in w b).more
          (λ e. at-end (omega (arith, run.full e)) ∙ e ∙ sym (lt-ltb j (lines_count w b) (omega (arith, count-some e))))
          (λ e. at-end (omega (arith, count_none e)) ∙ e ∙ sym (le-ltb j (lines_count w b) (omega (arith, count_none e))))

  pub no_line : (j : ℕ) → 256 < j → j ≤ lines_count w b → false ≡ ltb j (lines_count w b)
  no_line j a h = sym (le-ltb j (lines_count w b) (omega (arith, count_most)))

  -- the id that is read there
  pub line-id : (j : ℕ) → w ≤ id_room → j < length (lines_in w b).ids → {x : ObjectId} → parent_at w b (tree_size w + parent_size w * j) ≡ Some x → id_in w x.bytes ≡ get_or (lines_in w b).ids j []
  unfolding parent_at
  line-id j small h {x} e =
      let read : Some x ≡ Some (record { bytes = padded (get_or (lines_in w b).ids j []) }) = sym e ∙ ap id_read (line-there j h) in
      ap (λ (y : ObjectId). id_in w y.bytes) (some_in read)
      ∙ id_in_lem w (get_or (lines_in w b).ids j []) (id_line-some w parent_word (drop (tree_size w + parent_size w * j) b) _ (line-there j h)).width small

  -- below the count there is one
  pub line-id-there : (j : ℕ) → j < 256 → j < lines_count w b → parent_at w b (tree_size w + parent_size w * j) ≢ None
  line-id-there j a h e = clash (lt-ltb j (lines_count w b) h) (sym (has-line j (omega arith) (omega arith)) ∙ ap is_some e)
