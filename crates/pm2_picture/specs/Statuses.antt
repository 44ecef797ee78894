-- The number of each status, and the line that is told of it.
use Rattle.std.specs.Prelude.{ℕ, List, [], ◌++◌, codes, decimal}
use Rattle.pm2_picture.specs.declared.status.Status.{Status}
use Rattle.pm2_picture.specs.declared.status.Status.TheVariants as is

abbrev pub status_number : Status → ℕ
status_number is.Done = 0
status_number is.Usage = 1
status_number (is.BadTrace line) = 2
status_number is.TooMany = 3
status_number is.ReadFault = 5
status_number is.WriteFault = 6
status_number is.NoMemory = 7

abbrev pub status_line : Status → List ℕ
status_line is.Done = []
status_line is.Usage = codes "usage: pm2_picture TRACE OUT.svg / TRACE OUT.paje, with --from S and --to S for some of the stamps\n"
status_line (is.BadTrace line) = codes "pm2_picture: bad trace at line " ++ (decimal line ++ codes "\n")
status_line is.TooMany = codes "pm2_picture: more than 200000 entries: choose some of the stamps by --from S and --to S\n"
status_line is.ReadFault = codes "pm2_picture: cannot read\n"
status_line is.WriteFault = codes "pm2_picture: cannot write\n"
status_line is.NoMemory = codes "pm2_picture: out of memory\n"
