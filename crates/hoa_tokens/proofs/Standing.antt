-- What the scanner answers at a place is what stands there, kind by kind.
use Rattle.std.proofs.Common.{◌≡◌, ℕ, ◌+◌, ◌-◌, ◌<◌, Bool, true, false, cond, List, length, get_or, sym, subst, arith, length-drop, length-take, get_or-drop, get_or-take}
use Rattle.hoa_tokens.specs.declared.fault.Refusal.TheVariants.{BadByte, BadNumber}
use Rattle.hoa_tokens.specs.Bytes.{digit, nameable, quote, value, plain}
use Rattle.hoa_tokens.specs.Items.{Each, Run, span, Kind}
use Rattle.hoa_tokens.specs.Scanning.{Found, token, fault, number, name, bytes_fault, item_found, Stands}
use Rattle.hoa_tokens.specs.Steps.{AllDigits, closes}
use Rattle.hoa_tokens.proofs.Longest.{digits_longest, name_longest, no_name}

-- the bytes of a span of digits are digits
pub span_digits : (text : List ℕ) (from to : ℕ) → Each digit text from to → AllDigits (span text from to)
span_digits text from to each i below =
    let inside : i < to - from = omega (arith, simp (length-take, length-drop) at below) in
    rw (get_or-take, get_or-drop) (each (from + i) (omega arith) (omega arith))

module _ (text : List ℕ) (place next : ℕ) (first : digit (get_or text place 0) ≡ true) (run : Run digit text place next) where
  stands : Stands text place (item_found Kind.digits text place next)
  stands = Stands.item Kind.digits next (digits_longest text place next first run)

  abbrev chosen : Bool → Found
  chosen b = cond b (token (number (value (span text place next))) place next) (fault (bytes_fault BadNumber place))

  pub number_stands : (n : ℕ) → plain (span text place next) ≡ true → n ≡ value (span text place next) → Stands text place (token (number n) place next)
  number_stands n fine is =
      subst (λ m. Stands text place (token (number m) place next)) (sym is) (subst (λ b. Stands text place (chosen b)) fine stands)

  pub number_refused : plain (span text place next) ≡ false → Stands text place (fault (bytes_fault BadNumber place))
  number_refused bad = subst (λ b. Stands text place (chosen b)) bad stands

module _ (text : List ℕ) (place end : ℕ) (within : place < length text) (first : get_or text place 0 ≡ quote) (run : Run nameable text (place + 1) end) where
  pub name_stands : closes text (place + 1) end ≡ true → Stands text place (token (name (span text (place + 1) end)) place (end + 1))
  name_stands closed =
      let back : end + 1 - 1 ≡ end = omega arith in
      subst (λ i. Stands text place (token (name (span text (place + 1) i)) place (end + 1))) back (Stands.item Kind.name (end + 1) (name_longest text place end first run closed))

  pub name_refused : closes text (place + 1) end ≡ false → Stands text place (fault (bytes_fault BadByte place))
  name_refused shut = Stands.nothing within (no_name text place end first run shut)
