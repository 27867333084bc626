-- The type byte picks the form, and each form has its reader.
use Rattle.std.proofs.Common.{refl, sym, ◌∙◌, arith}
use Rattle.channel.specs.Answers as A
use Rattle.channel.specs.Call.{ended, closed}
use Rattle.channel.specs.declared.Message.TheVariants as M
use Rattle.reading.specs.Reads as E
use Rattle.reading.proofs.Forms.{is_91, is_92, is_93, is_94, is_95, is_96, is_97, is_other, is_none, first_is, ended_as}
use Rattle.reading.proofs.read_message.Goals as goal

pub returns-in_err-first : goal.returns-in_err-first
unfolding E.read_of
returns-in_err-first c = rw c.from_residual.ensures (sym (is_none c.args.p.now c.in_err-first.ensures.value))

pub returns-in-91 : goal.returns-in-91
returns-in-91 c = c.read_confirmation.ensures ∙ sym (is_91 c.args.p.now (first_is _ c.in_ok-first.ensures.value ∙ c.in-91.is))

pub returns-in-92 : goal.returns-in-92
returns-in-92 c = c.read_failure.ensures ∙ sym (is_92 c.args.p.now (first_is _ c.in_ok-first.ensures.value ∙ c.in-92.is))

pub returns-in-93 : goal.returns-in-93
returns-in-93 c = c.read_adjust.ensures ∙ sym (is_93 c.args.p.now (first_is _ c.in_ok-first.ensures.value ∙ c.in-93.is))

pub returns-in-94 : goal.returns-in-94
returns-in-94 c = c.read_data.ensures ∙ sym (is_94 c.args.p.now (first_is _ c.in_ok-first.ensures.value ∙ c.in-94.is))

pub returns-in-95 : goal.returns-in-95
returns-in-95 c = c.read_extended.ensures ∙ sym (is_95 c.args.p.now (first_is _ c.in_ok-first.ensures.value ∙ c.in-95.is))

pub returns-in-96 : goal.returns-in-96
unfolding A.message_of
returns-in-96 c =
    ended_as c.args.p.now M.Eof ended (λ n. refl) _ _ c.alone.ensures c.map.ensures.cases ∙ sym (is_96 c.args.p.now (first_is _ c.in_ok-first.ensures.value ∙ c.in-96.is))

pub returns-in-97 : goal.returns-in-97
unfolding A.message_of
returns-in-97 c =
    ended_as c.args.p.now M.Close closed (λ n. refl) _ _ c.alone-in-97.ensures c.map-in-97.ensures.cases ∙ sym (is_97 c.args.p.now (first_is _ c.in_ok-first.ensures.value ∙ c.in-97.is))

pub returns-in_default : goal.returns-in_default
unfolding E.read_of
returns-in_default c =
    sym (is_other c.args.p.now _ (first_is _ c.in_ok-first.ensures.value) (λ e. omega arith) (λ e. omega arith) (λ e. omega arith) (λ e. omega arith) (λ e. omega arith) (λ e. omega arith) (λ e. omega arith))
