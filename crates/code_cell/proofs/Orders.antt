-- Entries that rise, or fall, name no code twice, so that the bound of a first look is no more than the distinct codes. Assumes
-- nothing.
-- Each range above a key and the ones before it, and each below one.
use mathlib.Core.Path.{◌≡◌, refl, ap, ap₂, sym, subst, ◌∙◌}
use mathlib.Core.Bool.{Bool, true, false, cond, ◌&&◌, ◌||◌}
use mathlib.Core.List.{List, [], ◌∷◌, ◌++◌}
use Prim.Native.Nat.{ℕ, suc, ◌+◌, ◌-◌, ◌≤◌, ◌<◌}
use native.Mathlib.Omega.{arith}
use borrow.Author.Tests.{ltb-true}
use lib.Dec.{ltb}
use lib.ListN.{length, length-append}
use Rattle.dial_code.specs.Key.{keys_end}
use Rattle.dial_code.proofs.Tests.{both}
use Rattle.code_entry.specs.Codes.{Writable}
use Rattle.code_entry.specs.Range.{range_keys, keys_from, first_key, last_key}
use Rattle.code_entry.specs.declared.CodeRange.{CodeRange}
use Rattle.code_cell.specs.Cell.{insert_all}
use Rattle.code_cell.specs.Count.{all_keys, is_named, added, bound_of, order_with, ordered, no_order}
use Rattle.code_cell.specs.declared.Order.{Order}
use Rattle.code_cell.specs.Rising.{Above, Below, Rising}
use Rattle.code_cell.proofs.Inserts.{above_less, below_more, below_append, above_append, all_last, all_first}
use Rattle.code_cell.proofs.RangeKeys.{range_keys_law, first_key_law, last_key_law, keys_below, keys_rising, length_keys}
use Rattle.code_cell.proofs.Marks.{AllWritable}
use Rattle.std.proofs.Common.{Option, Some, None}

abbrev rises : ℕ → List CodeRange → Bool
rises k [] = true
rises k (r ∷ rs) = ltb k (first_key r) && rises (last_key r) rs

abbrev falls : ℕ → List CodeRange → Bool
falls k [] = true
falls k (r ∷ rs) = ltb (last_key r) k && falls (first_key r) rs

and_assoc : (a b c : Bool) → ((a && b) && c) ≡ (a && (b && c))
and_assoc true b c = refl
and_assoc false b c = refl

and_true : (a : Bool) → a ≡ (a && true)
and_true true = refl
and_true false = refl

both_orders : (rs : List CodeRange) (o : Order) → ordered o rs ≡ ((o.rises && rises o.top rs) || (o.falls && falls o.bottom rs))
unfolding ordered
both_orders [] o = ap₂ ◌||◌ (and_true o.rises) (and_true o.falls)
both_orders (r ∷ rs) o =
    both_orders rs (order_with o r)
    ∙ ap₂ ◌||◌ (and_assoc o.rises (ltb o.top (first_key r)) (rises (last_key r) rs))
    (and_assoc o.falls (ltb (last_key r) o.bottom) (falls (first_key r) rs))

-- A range's keys, from its first to its last.
module _ (r : CodeRange) (w : Writable r) where
  keys_cons : range_keys r ≡ first_key r ∷ keys_from r.digits (r.first + 1) (r.count - 1)
  keys_cons =
      let z : suc (r.count - 1) ≡ r.count = omega (arith, w.least) in
      range_keys_law r ∙ (rw z at (first_key_law r.digits r.first (r.count - 1)))

  keys_snoc : range_keys r ≡ keys_from r.digits r.first (r.count - 1) ++ (last_key r ∷ [])
  keys_snoc =
      let z : suc (r.count - 1) ≡ r.count = omega (arith, w.least) in
      range_keys_law r ∙ (rw z at (last_key_law r.digits r.first (r.count - 1)))

  rise_so : Rising (range_keys r)
  rise_so = subst Rising (sym (range_keys_law r)) (keys_rising r.digits r.first r.count w.some w.few w.within)

  keys_above_last : (k : ℕ) → last_key r < k → Below (range_keys r) k
  keys_above_last k h =
      subst (λ (l : List ℕ). Below l k) (sym keys_snoc)
      (below_append (keys_from r.digits r.first (r.count - 1)) (last_key r) k
      (below_more (keys_from r.digits r.first (r.count - 1)) (last_key r) k h
      (keys_below r.digits r.first (r.count - 1) w.some w.few (omega (arith, w.least, w.within))))
      h)

  keys_from_first : (j : ℕ) → j < first_key r → Above j (range_keys r)
  keys_from_first j h =
      subst (Above j) (sym keys_cons)
      (h, above_less j (first_key r) (keys_from r.digits (r.first + 1) (r.count - 1)) h (subst Rising keys_cons rise_so).0)

  pub count_so : length (range_keys r) ≡ r.count
  count_so = ap length (range_keys_law r) ∙ length_keys r.digits r.first r.count

-- The bound grows by no more than the codes of a range.
pub added_most : (room b : ℕ) (p : Option CodeRange) (r : CodeRange) → added room b p r ≤ b + r.count
unfolding added
added_most room b p r = go (ltb room b) (is_named p r)
  where
    go : (s t : Bool) → cond s b (cond t b (b + r.count)) ≤ b + r.count
    go true t = omega arith
    go false true = omega arith
    go false false = omega arith

below_up : (l : List ℕ) (i j : ℕ) → i ≤ j → Below l i → Below l j
below_up [] i j g c = tt
below_up (x ∷ xs) i j g c = (omega (arith, c.0), below_up xs i j g c.1)

below_join : (l m : List ℕ) (k : ℕ) → Below l k → Below m k → Below (l ++ m) k
below_join [] m k a b = b
below_join (x ∷ xs) m k a b = (a.0, below_join xs m k a.1 b)

-- Its first key is not above its last.
ends_so : (r : CodeRange) → Writable r → first_key r ≤ last_key r
ends_so r w =
    let b : Below (first_key r ∷ keys_from r.digits (r.first + 1) (r.count - 1)) (suc (last_key r)) =
    subst (λ (l : List ℕ). Below l (suc (last_key r))) (keys_cons r w) (keys_above_last r w (suc (last_key r)) (omega arith)) in
    omega (arith, b.0)

-- A range above the keys so far, and one below them.
module _ (r : CodeRange) (w : Writable r) (l : List ℕ) where
  pub put_above : Below l (first_key r) → insert_all (range_keys r) l ≡ l ++ range_keys r
  put_above b =
      ap (λ (x : List ℕ). insert_all x l) (keys_cons r w)
      ∙ all_last (first_key r) _ l (subst Rising (keys_cons r w) (rise_so r w)) b
      ∙ ap (λ (x : List ℕ). l ++ x) (sym (keys_cons r w))

  put_below : (k : ℕ) → last_key r < k → ((j : ℕ) → j < k → Above j l) → insert_all (range_keys r) l ≡ range_keys r ++ l
  put_below k h a = all_first (range_keys r) l k (rise_so r w) (keys_above_last r w k h) a

  pub longer_above : insert_all (range_keys r) l ≡ l ++ range_keys r → length (insert_all (range_keys r) l) ≡ length l + r.count
  longer_above e = ap length e ∙ length-append l (range_keys r) ∙ ap (λ (x : ℕ). length l + x) (count_so r w)

  longer_below : insert_all (range_keys r) l ≡ range_keys r ++ l → length (insert_all (range_keys r) l) ≡ length l + r.count
  longer_below e = omega (arith, ap length e, length-append (range_keys r) l, count_so r w)

-- Rising: the keys so far are at most the last key.
rising_bound :
    (room b : ℕ) (p : Option CodeRange) (rs : List CodeRange) (l : List ℕ) (k : ℕ)
    → AllWritable rs
    → Below l (suc k)
    → rises k rs ≡ true
    → b ≤ length l
    → bound_of room b p rs ≤ length (all_keys l rs)
unfolding bound_of all_keys
rising_bound room b p [] l k w a h m = m
rising_bound room b p (r ∷ rs) l k w a h m =
    let t = both (ltb k (first_key r)) (rises (last_key r) rs) h in
    let o : k < first_key r = ltb-true k (first_key r) t.0 in
    let e = put_above r w.0 l (below_up l (suc k) (first_key r) o a) in
    let f : suc k ≤ suc (last_key r) = omega (arith, ends_so r w.0) in
    rising_bound room (added room b p r) (Some r) rs (insert_all (range_keys r) l) (last_key r) w.1
    (subst (λ (x : List ℕ). Below x (suc (last_key r))) (sym e)
    (below_join l (range_keys r) (suc (last_key r)) (below_up l (suc k) (suc (last_key r)) f a)
    (keys_above_last r w.0 (suc (last_key r)) (omega arith))))
    t.1 (omega (arith, longer_above r w.0 l e, added_most room b p r))

-- Falling: the keys so far are at least the first key.
falling_bound :
    (room b : ℕ) (p : Option CodeRange) (rs : List CodeRange) (l : List ℕ) (k : ℕ)
    → AllWritable rs
    → ((j : ℕ) → j < k → Above j l)
    → falls k rs ≡ true
    → b ≤ length l
    → bound_of room b p rs ≤ length (all_keys l rs)
unfolding bound_of all_keys
falling_bound room b p [] l k w a h m = m
falling_bound room b p (r ∷ rs) l k w a h m =
    let t = both (ltb (last_key r) k) (falls (first_key r) rs) h in
    let o : last_key r < k = ltb-true (last_key r) k t.0 in
    let e = put_below r w.0 l k o a in
    falling_bound room (added room b p r) (Some r) rs (insert_all (range_keys r) l) (first_key r) w.1
    (λ j g.
    subst (Above j) (sym e)
    (above_append j (range_keys r) l (keys_from_first r w.0 j g) (a j (omega (arith, ends_so r w.0)))))
    t.1 (omega (arith, longer_below r w.0 l e, added_most room b p r))

-- In order, the distinct codes are no fewer than the bound.
pub ordered_bound :
    (room : ℕ) (p : Option CodeRange) (rs : List CodeRange) → AllWritable rs
    → ordered no_order rs ≡ true
    → bound_of room 0 p rs ≤ length (all_keys [] rs)
ordered_bound room p rs w h =
    go (rises 0 rs) refl (falls keys_end rs) (sym (both_orders rs no_order) ∙ h)
  where
    go : (t : Bool) → rises 0 rs ≡ t → (u : Bool) → (t || falls keys_end rs) ≡ true
        → bound_of room 0 p rs ≤ length (all_keys [] rs)
    go true e u f = rising_bound room 0 p rs [] 0 w tt e (omega arith)
    go false e u f = falling_bound room 0 p rs [] keys_end w (λ j g. tt) f (omega arith)

-- In order and above the room, the distinct codes are too many.
pub look_many :
    (room : ℕ) (rs : List CodeRange) → AllWritable rs
    → ordered no_order rs ≡ true
    → room < bound_of room 0 None rs
    → room < length (all_keys [] rs)
look_many room rs w o h = omega (arith, ordered_bound room None rs w o)
