use Rattle.std.proofs.Common.{◌≡◌, length, Ok, Err, refl, ap, sym, ◌∙◌, ◌+◌, arith}
use Rattle.thread_text.specs.Grammar.{read_text}
use Rattle.thread_text.specs.Opened.{slots_at, opened_numbers}
use Rattle.pack_thread.specs.Threads.{thread_of, IsTextOf}
use Rattle.pack_thread.proofs.Texts.{reading, text_read, one_thread, found}
use Rattle.pack_thread.proofs.unpacking.unpack.Goals as goal

whole : (c : goal.In_ok-thread) → IsTextOf c.args.bytes.now (thread_of c.in_ok-thread.thread)
whole c =
    let o = c.in-Ok.opened in
    let e = c.in_ok-thread.ensures in
    found c.args.bytes.now (opened_numbers c.args.bytes.now o) (slots_at o) (length o.slots + 1) (thread_of c.in_ok-thread.thread) (λ i. omega (arith, c.type_inv.bytes i))
    c.in-Ok.ensures.reading e.numbers e.regs e.holds e.memory

refused_there : (c : goal.In-Some) → read_text c.args.bytes.now ≡ Err c.in-Some.offset
refused_there c = (c.in-Some.ensures.refused c.in-Some.offset).0 refl

pub returns-in-Some-clause-refused : goal.returns-in-Some-clause-refused
returns-in-Some-clause-refused c =
    let there = refused_there c in
    λ offset. (λ same. cc (there, same), λ read. cc (there, read))

pub returns-in-Some-clause-again : goal.returns-in-Some-clause-again
returns-in-Some-clause-again c = λ t rules typed text.
    let refused = refused_there c in
    let good : read_text c.args.bytes.now ≡ Ok (reading t) = ap read_text text ∙ text_read t rules typed in
    cc

pub returns-clause-found : goal.returns-clause-found
returns-clause-found c = let w = whole c in (w.rules, w.typed)

pub returns-clause-text : goal.returns-clause-text
returns-clause-text c = (whole c).text

pub returns-clause-again : goal.returns-clause-again
returns-clause-again c = λ t rules typed text.
    let w = whole c in
    one_thread (thread_of c.in_ok-thread.thread) t w.rules w.typed rules typed (sym w.text ∙ text)
