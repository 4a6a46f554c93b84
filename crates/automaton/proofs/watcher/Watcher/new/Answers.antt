use Rattle.automaton.proofs.watcher.Watcher.new.Goals as goal

pub returns-clause-accepts : goal.returns-clause-accepts
returns-clause-accepts g c = g.W.Watch.accepts c.in_ok-signal.signal.index c.in_ok-signal.signal.count
