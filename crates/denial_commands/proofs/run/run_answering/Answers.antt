use Rattle.std.proofs.Common.{refl}
use Rattle.denial_program.specs.declared.fault.DenialFault.TheVariants.{OutOfMemory}
use Rattle.denial_commands.proofs.run.run_answering.Goals as goal

pub returns-in-Ok : goal.returns-in-Ok
returns-in-Ok g c = λ flags. rw (c.as_slice.ensures.value, c.in-Ok.ensures) at c.run_judging.ensures flags

-- memory ran out before anything was read or written
pub returns-in-Err : goal.returns-in-Err
returns-in-Err g c =
    λ flags. (
      OutOfMemory,
      refl,
      record {
        run = record {
          ok = tt;
          reads = record { line = λ n is. absurd (let s = is in cc); end = λ after. absurd after };
          records = λ of. absurd of;
          write = λ is. absurd (let s = is in cc);
        };
        usage = tt;
        untouched = λ before. absurd before;
      },
    )
