-- What a run that polices one link has told.
use Rattle.std.specs.Prelude.{is_none}
use Rattle.std.proofs.Common.{◌≡◌, ℕ, ◌+◌, List, [], ◌∷◌, refl, ap, sym, ◌∙◌, subst, Option, Some}
use Rattle.std.proofs.Common.{None, arith, IfSome, Bool, true, false, not, is_some}
use Rattle.std.specs.Prelude.{if◌then◌else◌}
use Rattle.std.specs.Io.KnownBytes.{Appends}
use Rattle.std.proofs.KnownBytes.{Appends-trans, Appends-nil}
use Rattle.afdx_frame.specs.declared.by_side.BySide.{BySide}
use Rattle.afdx_input_lines.specs.Calls.{AppendsFront}
use Rattle.afdx_input_lines.specs.Lines.{lines_of}
use Rattle.afdx_police.specs.declared.account.LinkAccount.{LinkAccount}
use Rattle.afdx_police.specs.declared.shape.Reason.{Reason}
use Rattle.afdx_police.specs.Arrival.{Arrival}
use Rattle.afdx_police.specs.Rule.{Rule}
use Rattle.afdx_police.specs.Verdicts.{verdict_in}
use Rattle.afdx_command_tables.specs.declared.summary.Summary.{Summary}
use Rattle.afdx_input_sources.specs.Listed.{frames}
use Rattle.afdx_replay.specs.policing.Text.{text_of, count_judged, side_text, verdict_line}
use Rattle.afdx_replay.specs.policing.Policed.{WritesBeginning, WritesAll}
use Rattle.afdx_replay.specs.policing.Accounts.{HaveSeen}
use Rattle.afdx_replay.specs.policing.Told.{HasTold}
use Rattle.afdx_input_sources.proofs.RunLemmas.{IsDone}
use Rattle.afdx_replay.proofs.TextLemmas.{text_of-none, text_of-more, judged-none}
use Rattle.afdx_replay.proofs.TextLemmas.{judged-more, judged-same}
use Rattle.afdx_text.proofs.OutputLemmas.{front-more}

pub told-start : (rule : Rule) (accounts : BySide LinkAccount) (output : Option (List ℕ))
    → HaveSeen accounts rule [] → HasTold rule accounts 0 0 output output []
told-start rule accounts output seen = record {
  seen = seen;
  accepted_is = sym (judged-none is_none rule);
  dropped_is = sym (judged-none is_some rule);
  written = subst (λ (t : List ℕ). Appends output output t) (sym (text_of-none rule)) (Appends-nil output);
}

-- how many more are counted for a verdict
pub record Counts (reason : Option Reason) (accepted dropped accepted' dropped' : ℕ) : Type 0 where
  pub if_accepted : reason ≡ None → (accepted' ≡ accepted + 1) × (dropped' ≡ dropped)
  pub if_dropped : (why : Reason) → reason ≡ Some why → (accepted' ≡ accepted) × (dropped' ≡ dropped + 1)

pub counts_if : (reason : Option Reason) (accepted dropped accepted' dropped' : ℕ) (none : Bool)
    → is_some reason ≡ not none
    → accepted' ≡ (if none then accepted + 1 else accepted)
    → dropped' ≡ (if not none then dropped + 1 else dropped)
    → Counts reason accepted dropped accepted' dropped'
counts_if None accepted dropped accepted' dropped' true n a d =
    record { if_accepted = λ e. (a, d); if_dropped = λ why e. cc }
counts_if None accepted dropped accepted' dropped' false n a d = cc
counts_if (Some reason) accepted dropped accepted' dropped' true n a d = cc
counts_if (Some reason) accepted dropped accepted' dropped' false n a d =
    record { if_accepted = λ e. cc; if_dropped = λ why e. (a, d) }

pub counts-one : (reason : Option Reason) (accepted dropped accepted' dropped' : ℕ)
    → Counts reason accepted dropped accepted' dropped' → accepted' + dropped' ≡ accepted + dropped + 1
counts-one None accepted dropped accepted' dropped' k = let one = k.if_accepted refl in omega (arith, one.0, one.1)
counts-one (Some why) accepted dropped accepted' dropped' k = let one = k.if_dropped why refl in
    omega (arith, one.0, one.1)

counted : (rule : Rule) (x : Arrival) (past : List Arrival) (reason : Option Reason)
    (accepted dropped accepted' dropped' : ℕ)
    → reason ≡ verdict_in rule past x → Counts reason accepted dropped accepted' dropped'
    → accepted ≡ count_judged is_none rule past → dropped ≡ count_judged is_some rule past
    → (accepted' ≡ count_judged is_none rule (x ∷ past)) × (dropped' ≡ count_judged is_some rule (x ∷ past))
counted rule x past None accepted dropped accepted' dropped' e k a d =
    let one = k.if_accepted refl in (
      one.0 ∙ ap (λ (n : ℕ). n + 1) a ∙ sym (judged-more is_none rule x past None e refl),
      one.1 ∙ d
          ∙ sym (judged-same is_some rule x past None e refl),
    )
counted rule x past (Some why) accepted dropped accepted' dropped' e k a d =
    let one = k.if_dropped why refl in (
      one.0 ∙ a ∙ sym (judged-same is_none rule x past (Some why) e refl),
      one.1 ∙ ap (λ (n : ℕ). n + 1) d
          ∙ sym (judged-more is_some rule x past (Some why) e refl),
    )

-- an arrival more, whose verdict's line was written
pub told-next : (rule : Rule) (accounts after : BySide LinkAccount) (accepted dropped accepted' dropped' : ℕ)
    (old new newer : Option (List ℕ)) (x : Arrival) (past : List Arrival) (reason : Option Reason)
    (text : List ℕ)
    → HasTold rule accounts accepted dropped old new past → reason ≡ verdict_in rule past x
    → HaveSeen after rule (x ∷ past) → Counts reason accepted dropped accepted' dropped'
    → text ≡ verdict_line x.tag (side_text x.side) reason → Appends new newer text
    → HasTold rule after accepted' dropped' old newer (x ∷ past)
told-next rule accounts after accepted dropped accepted' dropped' old new newer x past reason text h e seen k t w =
    let counts = counted rule x past reason accepted dropped accepted' dropped' e k h.accepted_is h.dropped_is in
    record {
      seen = seen;
      accepted_is = counts.0;
      dropped_is = counts.1;
      written = subst (λ (t : List ℕ). Appends old newer t) (sym (text_of-more rule x past reason e))
          (Appends-trans old new newer (text_of rule past) (verdict_line x.tag (side_text x.side) reason)
          h.written (subst (λ (t : List ℕ). Appends new newer t) t w));
    }

-- of an arrival more, of whose verdict's line a beginning was written
pub begun-next : (rule : Rule) (accounts : BySide LinkAccount) (accepted dropped : ℕ)
    (old new newer : Option (List ℕ)) (x : Arrival) (past : List Arrival) (reason : Option Reason)
    (text : List ℕ)
    → HasTold rule accounts accepted dropped old new past → reason ≡ verdict_in rule past x
    → text ≡ verdict_line x.tag (side_text x.side) reason → AppendsFront new newer text
    → WritesBeginning rule old newer (x ∷ past)
begun-next rule accounts accepted dropped old new newer x past reason text h e t w =
    subst (λ (t : List ℕ). AppendsFront old newer t) (sym (text_of-more rule x past reason e))
    (front-more old new newer (text_of rule past) (verdict_line x.tag (side_text x.side) reason) h.written
    (subst (λ (t : List ℕ). AppendsFront new newer t) t w))

-- all arrivals are told
done_all : (rule : Rule) (accounts : BySide LinkAccount) (accepted dropped n : ℕ) (lines : List (List ℕ))
    (old new : Option (List ℕ)) (summary : Summary)
    → IsDone frames (HasTold rule accounts accepted dropped old new) n lines
    → summary ≡ record {
      lines = n;
      accepted = accepted;
      dropped = dropped;
      lost = 0;
      departed = 0;
      too_old = 0;
      delivered = 0;
    }
    → WritesAll rule lines old new summary
done_all rule accounts accepted dropped n lines old new summary h e = record {
  sound = h.sound;
  written = h.are_told.written;
  counted = cc (e, h.all, h.are_told.accepted_is, h.are_told.dropped_is);
}

pub told-done : (rule : Rule) (accounts : BySide LinkAccount) (accepted dropped n : ℕ)
    (input old new : Option (List ℕ)) (summary : Summary)
    → IfSome input (λ bytes. IsDone frames (HasTold rule accounts accepted dropped old new) n
    (lines_of bytes)) → summary ≡ record {
      lines = n;
      accepted = accepted;
      dropped = dropped;
      lost = 0;
      departed = 0;
      too_old = 0;
      delivered = 0;
    }
    → IfSome input (λ bytes. WritesAll rule (lines_of bytes) old new summary)
told-done rule accounts accepted dropped n None old new summary h e = tt
told-done rule accounts accepted dropped n (Some bytes) old new summary h e =
    done_all rule accounts accepted dropped n (lines_of bytes) old new summary h e
