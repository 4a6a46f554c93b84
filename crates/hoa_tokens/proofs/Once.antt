-- What scanning finds lies ahead in the text, and there is one answer only.
use Rattle.std.proofs.Common.{◌≡◌, ℕ, ◌-◌, ◌<◌, ◌≤◌, Bool, true, false, cond, List, length, get_or, sym, refl, ap, ◌∙◌, subst, inl, inr, ⊎_elim, arith}
use Rattle.std.proofs.lemmas.List.{get_or_past}
use Rattle.std.proofs.str.Laws.{order}
use Rattle.hoa_tokens.specs.declared.class.Class.TheVariants as class
use Rattle.hoa_tokens.specs.declared.fault.Refusal.TheVariants.{BadNumber}
use Rattle.hoa_tokens.specs.Bytes.{blank, digit, member, value, plain}
use Rattle.hoa_tokens.specs.Items.{Run, span, Kind, Item, Longest}
use Rattle.hoa_tokens.specs.Scanning.{Found, token, fault, number, bytes_fault, item_found, Stands, ended, item, nothing, Scanned, Ahead}
use Rattle.hoa_tokens.proofs.FirstBytes.{never, some_sign, kind_at_lem}
use Rattle.hoa_tokens.proofs.Longest.{each_in_run}

-- a byte that is not 0 stands within the text
within : (text : List ℕ) (i : ℕ) → 0 < get_or text i 0 → i < length text
within text i some = ⊎_elim (λ h. h) (λ past. absurd (omega (arith, get_or_past text i 0 past))) (order i (length text))

-- a byte of a class that leaves out 0 stands within the text
class_within : (test : ℕ → Bool) (text : List ℕ) (i : ℕ) → test 0 ≡ false → test (get_or text i 0) ≡ true → i < length text
class_within test text i none some =
    ⊎_elim (λ h. h) (λ past. absurd (never _ some (ap test (get_or_past text i 0 past) ∙ none))) (order i (length text))

-- an item has a byte or more, all within the text
item_within : (kind : Kind) (text : List ℕ) (from to : ℕ) → Item kind text from to → (from < to) × (to ≤ length text)
item_within Kind.word text from to (inl s) =
    (s.0, omega (arith, class_within (member class.Word) text (to - 1) refl (s.2 (to - 1) (omega (arith, s.0)) (omega (arith, s.0)))))
item_within Kind.word text from to (inr s) =
    (omega (arith, s.0.0), omega (arith, within text (to - 1) (omega (arith, s.1)), s.0.0))
item_within Kind.digits text from to s =
    (s.0, omega (arith, class_within digit text (to - 1) refl (s.1 (to - 1) (omega (arith, s.0)) (omega (arith, s.0)))))
item_within Kind.name text from to s = (omega (arith, s.3), omega (arith, within text (to - 1) (omega (arith, s.1)), s.3))
item_within (Kind.mark m) text from to s =
    (omega (arith, s.0), omega (arith, s.0, within text from (omega (arith, s.1, some_sign m))))

item_ahead : (kind : Kind) (text : List ℕ) (from place to : ℕ) → from ≤ place → Item kind text place to → Ahead text from (item_found kind text place to)
item_ahead Kind.word text from place to low it = let w = item_within Kind.word text place to it in (omega (arith, w.0), w.1)
item_ahead Kind.digits text from place to low it = go (plain (span text place to))
  where
    go : (b : Bool) → Ahead text from (cond b (token (number (value (span text place to))) place to) (fault (bytes_fault BadNumber place)))
    go true = let w = item_within Kind.digits text place to it in (omega (arith, w.0), w.1)
    go false = let w = item_within Kind.digits text place to it in (low, omega (arith, w.0, w.1))
item_ahead Kind.name text from place to low it = let w = item_within Kind.name text place to it in (omega (arith, w.0), w.1)
item_ahead (Kind.mark m) text from place to low it = let w = item_within (Kind.mark m) text place to it in (omega (arith, w.0), w.1)

stands_ahead : (text : List ℕ) (from place : ℕ) (x : Found) → from ≤ place → Stands text place x → Ahead text from x
stands_ahead text from place x low (ended is) = (is, is)
stands_ahead text from place x low (item kind to l) = item_ahead kind text from place to low l.item
stands_ahead text from place x low (nothing in-text none) = (low, in-text)

pub scanned_ahead : (text : List ℕ) (from : ℕ) (x : Found) → Scanned text from x → Ahead text from x
scanned_ahead text from x s = stands_ahead text from s.place x s.blanks.forward s.stands

-- two longest items at one place are the same one
one_longest : (k k' : Kind) (text : List ℕ) (place to to' : ℕ) → Longest k text place to → Longest k' text place to' → item_found k text place to ≡ item_found k' text place to'
one_longest k k' text place to to' l l' =
    let kinds : k ≡ k' = sym (kind_at_lem k text place to l.item) ∙ kind_at_lem k' text place to' l'.item in
    let ends : to ≡ to' = omega (arith, l.longest k' to' l'.item, l'.longest k to l.item) in
    ap (λ kind. item_found kind text place to) kinds ∙ ap (item_found k' text place) ends

one_stands : (text : List ℕ) (place : ℕ) (x y : Found) → Stands text place x → Stands text place y → x ≡ y
one_stands text place x y (ended e) (ended e') = refl
one_stands text place x y (ended e) (item k to l) = absurd (omega (arith, e, (item_within k text place to l.item).0, (item_within k text place to l.item).1))
one_stands text place x y (ended e) (nothing i none) = absurd (omega (arith, e, i))
one_stands text place x y (item k to l) (ended e) = absurd (omega (arith, e, (item_within k text place to l.item).0, (item_within k text place to l.item).1))
one_stands text place x y (item k to l) (item k' to' l') = one_longest k k' text place to to' l l'
one_stands text place x y (item k to l) (nothing i none) = absurd (none k to l.item)
one_stands text place x y (nothing i none) (ended e) = absurd (omega (arith, e, i))
one_stands text place x y (nothing i none) (item k to l) = absurd (none k to l.item)
one_stands text place x y (nothing i none) (nothing i' none') = refl

one_run : (test : ℕ → Bool) (text : List ℕ) (from to to' : ℕ) → Run test text from to → Run test text from to' → to ≡ to'
one_run test text from to to' run run' =
    omega (arith, each_in_run test text from to to' run run'.each, each_in_run test text from to' to run' run.each)

pub one_scan : (text : List ℕ) (from : ℕ) (x y : Found) → Scanned text from x → Scanned text from y → x ≡ y
one_scan text from x y s t =
    one_stands text t.place x y (subst (λ p. Stands text p x) (one_run blank text from s.place t.place s.blanks t.blanks) s.stands) t.stands
