use Rattle.std.proofs.Common.{◌≡◌, ◌+◌, ◌^◌, ap, ◌∙◌, arith}
use Rattle.conformance.specs.Lines.{letter_set}
use Rattle.conformance.proofs.Listing.{letter_set_more, letter_set_few}
use Rattle.conformance.proofs.automata.step_letters.Given as given
use Rattle.conformance.proofs.automata.step_letters.Goals as goal

-- the set with one more letter
more : (g : given.Over) (c : goal.After-step_letter-set g) → c.loop-a.set + c.step_letter-set.result ≡ letter_set (λ a. (g.A.Automaton.meaning c.args.automaton.now).step c.args.s a c.args.t) (c.loop-a.a + 1)
more g c =
    letter_set_more _ c.loop-a.a c.loop-a.set c.step_letter-set.result c.loop-a.invariant c.step_letter-set.ensures

pub overflow_add-set : goal.overflow_add-set
overflow_add-set g c = omega (arith, more g c, letter_set_few (λ a. (g.A.Automaton.meaning c.args.automaton.now).step c.args.s a c.args.t) (c.loop-a.a + 1) (omega arith))

pub returns : goal.returns
returns g c =
    let all : c.loop-a.a ≡ 2 ^ (g.A.Automaton.meaning c.args.automaton.now).signals =
    let end : c.loop-a.a ≡ c.letters-a-end.result = omega arith in
    end ∙ c.letters-a-end.ensures.is in
    record {
      is = c.loop-a.invariant ∙ ap (letter_set (λ a. (g.A.Automaton.meaning c.args.automaton.now).step c.args.s a c.args.t)) all;
      few = omega (arith, c.loop-a.invariant, letter_set_few (λ a. (g.A.Automaton.meaning c.args.automaton.now).step c.args.s a c.args.t) c.loop-a.a (omega arith));
    }
