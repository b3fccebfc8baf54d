use Rattle.bc_picture.proofs.writing.put_numbers.Goals as goal

pub put_all-requires : goal.put_all-requires
put_all-requires g c = record { room = rw (c.from.ensures, c.from-2.ensures, c.from-3.ensures, c.from-4.ensures, c.from-5.ensures, c.from-6.ensures, c.from-7.ensures, c.from-8.ensures, c.from-9.ensures) c.requires.room }

pub returns-clause-puts : goal.returns-clause-puts
returns-clause-puts g c = rw (c.from.ensures, c.from-2.ensures, c.from-3.ensures, c.from-4.ensures, c.from-5.ensures, c.from-6.ensures, c.from-7.ensures, c.from-8.ensures, c.from-9.ensures) at c.put_all.ensures.puts

pub returns-clause-breaks : goal.returns-clause-breaks
returns-clause-breaks g c = rw (c.from.ensures, c.from-2.ensures, c.from-3.ensures, c.from-4.ensures, c.from-5.ensures, c.from-6.ensures, c.from-7.ensures, c.from-8.ensures, c.from-9.ensures) at c.put_all.ensures.breaks
