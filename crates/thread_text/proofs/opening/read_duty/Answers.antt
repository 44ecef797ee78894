use Rattle.std.proofs.Common.{[], ◌∷◌, ◌∙◌, sym}
use Rattle.std.proofs.lemmas.Result.{err_from_is_err_and}
use Rattle.thread_text.specs.Grammar.{is_call_node, is_call_number}
use Rattle.thread_text.proofs.Steps.{is_short, is_broken}
use Rattle.thread_text.proofs.DutySteps.{is_duty, behind_duty, behind_home, behind_seq, behind_count, behind_at, whole, begin, duty_read, home_read, seq_read, count_read, at_read, none_served}
use Rattle.thread_text.proofs.opening.read_duty.Goals as goal

pub returns-in_err-duty : goal.returns-in_err-duty
returns-in_err-duty c =
    let bytes = c.args.bytes.now in
    let p = err_from_is_err_and c.from_residual.result c.from_residual.ensures.1 in
    rw (p.1, p.2) (is_short 1 is_duty behind_duty bytes 14 c.in_err-duty.field-0.0 [] (whole bytes) c.in_err-duty.ensures.number (begin bytes))

pub returns-in_err-require : goal.returns-in_err-require
returns-in_err-require c =
    let bytes = c.args.bytes.now in
    let p = err_from_is_err_and c.from_residual-in_err-require.result c.from_residual-in_err-require.ensures.1 in
    rw (p.1, p.2, c.in_err-require.ensures.1) (is_broken 1 is_duty behind_duty bytes 14 c.in_ok-duty.duty [] (whole bytes) c.in_ok-duty.ensures.number c.in_err-require.ensures.0 (begin bytes))

pub returns-in_err-home : goal.returns-in_err-home
returns-in_err-home c =
    let bytes = c.args.bytes.now in
    let s1 = duty_read bytes c.in_ok-duty.duty c.in_ok-duty.ensures.number c.in_ok-require.ensures in
    let p = err_from_is_err_and c.from_residual-in_err-home.result c.from_residual-in_err-home.ensures.1 in
    rw (p.1, p.2) (is_short 1 (is_call_node c.in_ok-duty.duty) (behind_home c.in_ok-duty.duty) bytes 15 c.in_err-home.field-0.0 (c.in_ok-duty.duty ∷ []) (whole bytes) c.in_err-home.ensures.number s1)

pub returns-in_err-require-2 : goal.returns-in_err-require-2
returns-in_err-require-2 c =
    let bytes = c.args.bytes.now in
    let s1 = duty_read bytes c.in_ok-duty.duty c.in_ok-duty.ensures.number c.in_ok-require.ensures in
    let p = err_from_is_err_and c.from_residual-in_err-require-2.result c.from_residual-in_err-require-2.ensures.1 in
    rw (p.1, p.2, c.in_err-require-2.ensures.1) (is_broken 1 (is_call_node c.in_ok-duty.duty) (behind_home c.in_ok-duty.duty) bytes 15 c.in_ok-home.home (c.in_ok-duty.duty ∷ []) (whole bytes) c.in_ok-home.ensures.number (sym c.is_call_node.ensures ∙ c.in_err-require-2.ensures.0) s1)

pub returns-in_err-seq : goal.returns-in_err-seq
returns-in_err-seq c =
    let bytes = c.args.bytes.now in
    let s1 = duty_read bytes c.in_ok-duty.duty c.in_ok-duty.ensures.number c.in_ok-require.ensures in
    let s2 = home_read bytes c.in_ok-duty.duty c.in_ok-home.home s1 c.in_ok-home.ensures.number (sym c.is_call_node.ensures ∙ c.in_ok-require-2.ensures) in
    let p = err_from_is_err_and c.from_residual-in_err-seq.result c.from_residual-in_err-seq.ensures.1 in
    rw (p.1, p.2) (is_short 4 (is_call_number c.in_ok-duty.duty) (behind_seq c.in_ok-duty.duty) bytes 16 c.in_err-seq.field-0.0 (c.in_ok-duty.duty ∷ c.in_ok-home.home ∷ []) (whole bytes) c.in_err-seq.ensures.number s2)

pub returns-in_err-require-3 : goal.returns-in_err-require-3
returns-in_err-require-3 c =
    let bytes = c.args.bytes.now in
    let s1 = duty_read bytes c.in_ok-duty.duty c.in_ok-duty.ensures.number c.in_ok-require.ensures in
    let s2 = home_read bytes c.in_ok-duty.duty c.in_ok-home.home s1 c.in_ok-home.ensures.number (sym c.is_call_node.ensures ∙ c.in_ok-require-2.ensures) in
    let p = err_from_is_err_and c.from_residual-in_err-require-3.result c.from_residual-in_err-require-3.ensures.1 in
    rw (p.1, p.2, c.in_err-require-3.ensures.1) (is_broken 4 (is_call_number c.in_ok-duty.duty) (behind_seq c.in_ok-duty.duty) bytes 16 c.in_ok-seq.seq (c.in_ok-duty.duty ∷ c.in_ok-home.home ∷ []) (whole bytes) c.in_ok-seq.ensures.number (sym c.is_call_number.ensures ∙ c.in_err-require-3.ensures.0) s2)

pub returns-in_err-count : goal.returns-in_err-count
returns-in_err-count c =
    let bytes = c.args.bytes.now in
    let s1 = duty_read bytes c.in_ok-duty.duty c.in_ok-duty.ensures.number c.in_ok-require.ensures in
    let s2 = home_read bytes c.in_ok-duty.duty c.in_ok-home.home s1 c.in_ok-home.ensures.number (sym c.is_call_node.ensures ∙ c.in_ok-require-2.ensures) in
    let s3 = seq_read bytes c.in_ok-duty.duty c.in_ok-home.home c.in_ok-seq.seq s2 c.in_ok-seq.ensures.number (sym c.is_call_number.ensures ∙ c.in_ok-require-3.ensures) in
    let p = err_from_is_err_and c.from_residual-in_err-count.result c.from_residual-in_err-count.ensures.1 in
    rw (p.1, p.2) (is_short 4 (is_call_number c.in_ok-duty.duty) (behind_count c.in_ok-duty.duty) bytes 20 c.in_err-count.field-0.0 (c.in_ok-duty.duty ∷ c.in_ok-home.home ∷ c.in_ok-seq.seq ∷ []) (whole bytes) c.in_err-count.ensures.number s3)

pub returns-in_err-require-4 : goal.returns-in_err-require-4
returns-in_err-require-4 c =
    let bytes = c.args.bytes.now in
    let s1 = duty_read bytes c.in_ok-duty.duty c.in_ok-duty.ensures.number c.in_ok-require.ensures in
    let s2 = home_read bytes c.in_ok-duty.duty c.in_ok-home.home s1 c.in_ok-home.ensures.number (sym c.is_call_node.ensures ∙ c.in_ok-require-2.ensures) in
    let s3 = seq_read bytes c.in_ok-duty.duty c.in_ok-home.home c.in_ok-seq.seq s2 c.in_ok-seq.ensures.number (sym c.is_call_number.ensures ∙ c.in_ok-require-3.ensures) in
    let p = err_from_is_err_and c.from_residual-in_err-require-4.result c.from_residual-in_err-require-4.ensures.1 in
    rw (p.1, p.2, c.in_err-require-4.ensures.1) (is_broken 4 (is_call_number c.in_ok-duty.duty) (behind_count c.in_ok-duty.duty) bytes 20 c.in_ok-count.count (c.in_ok-duty.duty ∷ c.in_ok-home.home ∷ c.in_ok-seq.seq ∷ []) (whole bytes) c.in_ok-count.ensures.number (sym c.is_call_number-2.ensures ∙ c.in_err-require-4.ensures.0) s3)

pub returns-in_err-at : goal.returns-in_err-at
returns-in_err-at c =
    let bytes = c.args.bytes.now in
    let s1 = duty_read bytes c.in_ok-duty.duty c.in_ok-duty.ensures.number c.in_ok-require.ensures in
    let s2 = home_read bytes c.in_ok-duty.duty c.in_ok-home.home s1 c.in_ok-home.ensures.number (sym c.is_call_node.ensures ∙ c.in_ok-require-2.ensures) in
    let s3 = seq_read bytes c.in_ok-duty.duty c.in_ok-home.home c.in_ok-seq.seq s2 c.in_ok-seq.ensures.number (sym c.is_call_number.ensures ∙ c.in_ok-require-3.ensures) in
    let s4 = count_read bytes c.in_ok-duty.duty c.in_ok-home.home c.in_ok-seq.seq c.in_ok-count.count s3 c.in_ok-count.ensures.number (sym c.is_call_number-2.ensures ∙ c.in_ok-require-4.ensures) in
    let p = err_from_is_err_and c.from_residual-in_err-at.result c.from_residual-in_err-at.ensures.1 in
    rw (p.1, p.2) (is_short 1 (is_call_node c.in_ok-duty.duty) behind_at bytes 24 c.in_err-at.field-0.0 (c.in_ok-duty.duty ∷ c.in_ok-home.home ∷ c.in_ok-seq.seq ∷ c.in_ok-count.count ∷ []) (whole bytes) c.in_err-at.ensures.number s4)

pub returns-in_err-require-5 : goal.returns-in_err-require-5
returns-in_err-require-5 c =
    let bytes = c.args.bytes.now in
    let s1 = duty_read bytes c.in_ok-duty.duty c.in_ok-duty.ensures.number c.in_ok-require.ensures in
    let s2 = home_read bytes c.in_ok-duty.duty c.in_ok-home.home s1 c.in_ok-home.ensures.number (sym c.is_call_node.ensures ∙ c.in_ok-require-2.ensures) in
    let s3 = seq_read bytes c.in_ok-duty.duty c.in_ok-home.home c.in_ok-seq.seq s2 c.in_ok-seq.ensures.number (sym c.is_call_number.ensures ∙ c.in_ok-require-3.ensures) in
    let s4 = count_read bytes c.in_ok-duty.duty c.in_ok-home.home c.in_ok-seq.seq c.in_ok-count.count s3 c.in_ok-count.ensures.number (sym c.is_call_number-2.ensures ∙ c.in_ok-require-4.ensures) in
    let p = err_from_is_err_and c.from_residual-in_err-require-5.result c.from_residual-in_err-require-5.ensures.1 in
    rw (p.1, p.2, c.in_err-require-5.ensures.1) (is_broken 1 (is_call_node c.in_ok-duty.duty) behind_at bytes 24 c.in_ok-at.at (c.in_ok-duty.duty ∷ c.in_ok-home.home ∷ c.in_ok-seq.seq ∷ c.in_ok-count.count ∷ []) (whole bytes) c.in_ok-at.ensures.number (sym c.is_call_node-2.ensures ∙ c.in_err-require-5.ensures.0) s4)

pub returns : goal.returns
returns c =
    let bytes = c.args.bytes.now in
    let s1 = duty_read bytes c.in_ok-duty.duty c.in_ok-duty.ensures.number c.in_ok-require.ensures in
    let s2 = home_read bytes c.in_ok-duty.duty c.in_ok-home.home s1 c.in_ok-home.ensures.number (sym c.is_call_node.ensures ∙ c.in_ok-require-2.ensures) in
    let s3 = seq_read bytes c.in_ok-duty.duty c.in_ok-home.home c.in_ok-seq.seq s2 c.in_ok-seq.ensures.number (sym c.is_call_number.ensures ∙ c.in_ok-require-3.ensures) in
    let s4 = count_read bytes c.in_ok-duty.duty c.in_ok-home.home c.in_ok-seq.seq c.in_ok-count.count s3 c.in_ok-count.ensures.number (sym c.is_call_number-2.ensures ∙ c.in_ok-require-4.ensures) in
    let s5 = at_read bytes c.in_ok-duty.duty c.in_ok-home.home c.in_ok-seq.seq c.in_ok-count.count c.in_ok-at.at s4 c.in_ok-at.ensures.number (sym c.is_call_node-2.ensures ∙ c.in_ok-require-5.ensures) in
    rw (c.duty_of.ensures (none_served c.in_ok-duty.duty c.in_ok-home.home c.in_ok-seq.seq c.in_ok-count.count c.in_ok-at.at (sym c.is_call_node.ensures ∙ c.in_ok-require-2.ensures) (sym c.is_call_number.ensures ∙ c.in_ok-require-3.ensures)
    (sym c.is_call_number-2.ensures ∙ c.in_ok-require-4.ensures) (sym c.is_call_node-2.ensures ∙ c.in_ok-require-5.ensures))) s5
