use Rattle.line_world.specs.Stationed.{IsTerminal}
use Rattle.line_world.proofs.Stationing.{terminal-at}
use Rattle.line_world.proofs.terminals.Terminals.terminal.Goals as goal

found : (c : goal.After-index) → IsTerminal c.self.inside.scenario.settings c.self.inside.journal.items c.args.station c.index.result.now
found c =
    terminal-at c.self.inside.scenario.settings c.self.inside.journal.items c.self.inside.terminals.items c.args.station c.place_of.result
    c.index.result.now c.self.invariant.terminals (rw (← c.self.view_is) at c.requires) c.place_of.ensures c.index.ensures

pub returns-clause-settings : goal.returns-clause-settings
returns-clause-settings c = rw (← c.self.view_is) (found c).settings

pub returns-clause-station : goal.returns-clause-station
returns-clause-station c = (found c).station

pub returns-clause-stands : goal.returns-clause-stands
returns-clause-stands c = rw (← c.self.view_is) (found c).stands
