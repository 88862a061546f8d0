use Rattle.std.proofs.Common.{◌∷◌, List, ap}
use Rattle.afdx_input_sources.specs.Engine.{Item}
use Rattle.afdx_input_sources.specs.MergedSource.{given, inputs_by_role}
use Rattle.afdx_input_runs.specs.TwoListsSource.{seen_of}
use Rattle.afdx_input_runs.specs.declared.seen.Seen.{Seen}
use Rattle.afdx_input_runs.proofs.TwoListsLemmas.{seen-follows}
use Rattle.afdx_input_runs.proofs.two_lists.TwoListsSourceSeenByRole.next.Goals as goal

pub returns-in-Ok-clause-item : goal.returns-in-Ok-clause-item
returns-in-Ok-clause-item g c start past p ok =
    let x = given g.S.Source.current c.give_next.new.merged in
    let next = c.in-Ok.ensures.item (inputs_by_role start) p.of_two p.known_so ok in
    let is = p.frames_are in (
      record {
        of_two = x ∷ p.of_two;
        known_so = next.0;
        frames_are = ap (λ (l : List (Item Seen)). seen_of x ∷ l) is;
      },
      rw is (seen-follows p.of_two x next.1),
      tt,
    )

pub returns-in-Ok-clause-end : goal.returns-in-Ok-clause-end
returns-in-Ok-clause-end g c start past p ok = record {
  of_two = p.of_two;
  known_so = c.in-Ok.ensures.end (inputs_by_role start) p.of_two p.known_so ok;
  frames_are = p.frames_are;
}

pub returns-in-Err-clause-stop : goal.returns-in-Err-clause-stop
returns-in-Err-clause-stop g c start past p = record {
  own = c.in-Err.fault;
  stops = record {
    of_two = p.of_two;
    known_so = c.in-Err.ensures.stop (inputs_by_role start) p.of_two p.known_so;
    frames_are = p.frames_are;
  };
  fault_is = rw c.role_of.ensures at c.of_list.ensures;
}
