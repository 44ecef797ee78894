use Rattle.std.proofs.Common.{◌≡◌, length, suc, ◌-◌, arith, refl}
use Rattle.std.proofs.lemmas.List.Sums.{prefix_len-le-length}
use Rattle.asm_words.specs.Words.{is_name_byte}
use Rattle.asm_words.proofs.Onto.{word_takes}
use Rattle.asm_words.proofs.lexing.word_at.Goals as goal

pub split_at-requires : goal.split_at-requires
split_at-requires c = omega (arith, prefix_len-le-length is_name_byte c.args.after.now, c.name_len.ensures)

pub returns : goal.returns
returns c =
    let fits = prefix_len-le-length is_name_byte c.args.after.now in
    let len : length c.args.bytes.now ≡ suc (length c.args.after.now) = rw c.requires.whole refl in
    record {
      tokens = word_takes c.args.first c.args.after.now c.args.bytes.now c.split_at.result.1.now c.name_len.result (length c.args.bytes.now - length c.split_at.result.1.now)
          c.requires.whole c.requires.word c.name_len.ensures c.split_at.ensures.back (omega (arith, c.split_at.ensures.back_len, fits, c.name_len.ensures, len));
      shorter = omega (arith, c.split_at.ensures.back_len, len);
    }
