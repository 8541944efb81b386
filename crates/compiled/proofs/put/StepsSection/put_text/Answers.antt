-- Three bytes, with the text's length.
use Rattle.compiled.specs.Sections.{text_events}
use Rattle.compiled.proofs.PartLaws.{bytes_length}
use Rattle.compiled.proofs.put.StepsSection.put_text.Goals as goal

pub returns : goal.returns
unfolding text_events
returns c = λ limit. rw (bytes_length c.args._format.now c.args.from c.args.end c.requires.2) (c.put_step.ensures limit)
