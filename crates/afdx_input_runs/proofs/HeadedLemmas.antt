-- One of two lists that are read at once: what comes of it, and how often its device was asked.
use Rattle.std.proofs.Common.{◌≡◌, ℕ, ◌+◌, ◌≤◌, List, [], ◌∷◌, ◌++◌, length, reverse, append-nil, refl, sym, subst, arith}
use Rattle.std.proofs.Common.{Option, Some, None, Bool, false}
use Rattle.afdx_police.specs.Arrival.{Arrival}
use Rattle.afdx_input_lines.specs.FrameLines.{listed_frame}
use Rattle.afdx_input_lines.specs.Lines.{left, lines_of, lines_taken, most_reads}
use Rattle.afdx_input_lines.specs.declared.fault.RunFault.{RunFault}
use Rattle.afdx_input_lines.specs.declared.frame_line.Heading.{Heading}
use Rattle.afdx_input_lines.specs.declared.role.Role.{Role}
use Rattle.afdx_input_lines.specs.declared.watched.Watched.{Watched}
use Rattle.afdx_input_sources.specs.Causes.{cause_of}
use Rattle.afdx_input_sources.specs.Engine.{Item}
use Rattle.afdx_input_sources.specs.Items.{CanFollow, arrivals, heading_order}
use Rattle.afdx_input_sources.specs.Listed as listed
use Rattle.afdx_input_sources.specs.ListSource.{HasEnded, HasGiven, HasStopped, IsUnread, item_given}
use Rattle.afdx_input_sources.specs.declared.listed.FrameLines.{FrameLines}
use Rattle.afdx_input_sources.specs.declared.read_list.ReadList.{ReadList}
use Rattle.afdx_input_sources.proofs.ListSourceLemmas.{gave-start}
use Rattle.afdx_input_sources.specs.MergedSource.{IsAheadBy, front_by}
use Rattle.afdx_input_sources.specs.declared.ahead.AtHead.{AtHead}
use Rattle.afdx_input_sources.specs.declared.ahead.AtHead.TheVariants as at
use Rattle.afdx_input_sources.proofs.CameLemmas.{CanCome, reverse-taken}
use Rattle.afdx_input_runs.specs.Joining.{ListsTo, arrival_of}
use Rattle.afdx_input_runs.proofs.ListedLemmas.{Behind, StoppedBy, all-come, behind-come, stopped-so}

abbrev pub FrameList : Type 0
FrameList = ReadList FrameLines Heading

-- whether its device failed, and how often it was asked
pub record Asked {R : Type 0} (failed : Bool) (start input : Watched R) : Type 0 where
  pub failed_is : input.failed ≡ failed
  pub calls : input.calls ≤ start.calls + most_reads

module _ {R : Type 0} (remaining : R → Option (List ℕ)) where
  abbrev pub Given : Watched R → FrameList → Watched R → List (Item Heading) → Type 0
  Given start list input past =
      HasGiven (λ (form : FrameLines). Unit {0}) (λ (form : FrameLines). listed.frames) listed_frame
      (λ (heading : Heading). heading.time) remaining start list input past

  abbrev pub GivenAll : Watched R → FrameList → Watched R → List (Item Heading) → Type 0
  GivenAll start list input past =
      HasEnded (λ (form : FrameLines). listed.frames) listed_frame
      (λ (heading : Heading). heading.time) remaining start list input past

  abbrev pub StoppedList : Watched R → FrameList → Watched R → List (Item Heading) → RunFault → Type 0
  StoppedList start list input past fault =
      HasStopped (λ (form : FrameLines). listed.frames) listed_frame remaining start list input past fault

  module _ (start input : Watched R) (list : FrameList) where
    abbrev pub AheadBy : AtHead → List (Item Heading) → Type 0
    AheadBy hd taken =
        IsAheadBy heading_order CanFollow (Given start list input) (GivenAll start list input) (item_given list) hd
        taken

    given-asked : (taken : List (Item Heading)) → Given start list input taken → Asked false start input
    given-asked taken h =
        let calls = h.gave.calls in
        let few = h.gave.few in
        record { failed_is = h.gave.sound; calls = omega (arith, calls, few) }

    pub ahead-asked : (hd : AtHead) (taken : List (Item Heading)) → AheadBy hd taken → Asked false start input
    ahead-asked at.Unknown taken h = given-asked taken h
    ahead-asked (at.Item time) taken h = given-asked (item_given list ∷ taken) h.0
    ahead-asked at.Over taken h = record { failed_is = h.sound; calls = h.calls }

    module _ (role : Role) (bytes : List ℕ) (known : remaining start.inner ≡ Some bytes) where
      -- what comes of it, by its head
      pub record Comes (hd : AtHead) (taken : List (Item Heading)) : Type 0 where
        pub next : List Arrival
        pub fault : Option RunFault
        pub can : CanCome arrival_of (front_by hd (item_given list)) next fault
        pub listed_so : ListsTo role bytes (reverse (arrivals taken) ++ next) fault

      given-behind : (taken : List (Item Heading)) → Given start list input taken → Behind role bytes (arrivals taken)
      given-behind taken h =
          behind-come role bytes (arrivals taken) list.head.time (lines_taken list.reader) (remaining start.inner)
          (left remaining list.reader input) known h.gave.come

      pub given-all : (taken : List (Item Heading)) → GivenAll start list input taken
          → ListsTo role bytes (reverse (arrivals taken)) None × (lines_taken list.reader ≡ length (lines_of bytes))
      given-all taken h =
          all-come role bytes (arrivals taken) list.head.time (lines_taken list.reader) (remaining start.inner)
          h.rest known h.come h.done

      pub comes-by : (hd : AtHead) (taken : List (Item Heading)) → AheadBy hd taken → Comes hd taken
      comes-by at.Unknown taken h =
          let b = given-behind taken h in
          record { next = b.next; fault = b.fault; can = tt; listed_so = b.listed }
      comes-by (at.Item time) taken h =
          let b = given-behind (item_given list ∷ taken) h.0 in record {
            next = arrival_of (item_given list) ∷ b.next;
            fault = b.fault;
            can = (b.next, refl);
            listed_so = subst (λ (l : List Arrival). ListsTo role bytes l b.fault)
                (reverse-taken (arrival_of (item_given list)) (arrivals taken) b.next) b.listed;
          }
      comes-by at.Over taken h = record {
        next = [];
        fault = None;
        can = (refl, refl);
        listed_so = subst (λ (l : List Arrival). ListsTo role bytes l None)
            (sym (append-nil (reverse (arrivals taken)))) (given-all taken h).0;
      }

      pub stopped-list : (taken : List (Item Heading)) (own : RunFault) → StoppedList start list input taken own
          → StoppedBy role bytes (arrivals taken) (remaining input.inner) own (cause_of own)
      stopped-list taken own h =
          stopped-so role bytes (arrivals taken) (remaining start.inner) (remaining input.inner) own known h.stops

  -- ---- before the first read

  pub start-one : (input : Watched R) (list : FrameList) → IsUnread list.reader list.head.time → input.failed ≡ false
      → input.ended ≡ false → Given input list input []
  start-one input list new sound unended = record {
    form = tt;
    gave = gave-start listed.frames arrival_of remaining input list.reader list.head.time new sound unended;
  }
