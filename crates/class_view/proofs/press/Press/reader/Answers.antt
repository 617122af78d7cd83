use Rattle.class_view.proofs.Lemmas.{admits}
use Rattle.class_view.proofs.press.Press.reader.Goals as goal

pub reader-requires : goal.reader-requires
reader-requires c = admits
