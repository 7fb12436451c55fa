-- The examples, computed.
use mathlib.Core.Path.{refl}
use Rattle.wire.specs.Number.{number, bytes}
use Rattle.node.specs.Forest.{size, depth, snoc}
use Rattle.node.specs.Tags.{class_of, sort_of}
use Rattle.text.specs.Text.{read_text}
use Rattle.argument.specs.Argument.{read_arg}
use Rattle.arguments.specs.Arguments.{read_tags}
use Rattle.heads.specs.Heads.{length_of, size_of}
use Rattle.packet.specs.FirstText.{start_of}
use Rattle.packet.specs.Packet.{read_message, bundle_by, element_by, elements_by, packet_by, packet_at, read_packet}
use Rattle.framing.specs.Framing.{cut_frame}
use Rattle.folding.specs.Folding.{fold_at}
use Rattle.slides.specs.Slides.{put_time, slid_bytes}
use Rattle.slides.specs.Examples.{LostStays, NestedSlides}

pub lost-stays : LostStays
unfolding number bytes size depth snoc class_of sort_of read_text read_arg read_tags length_of start_of read_message packet_by packet_at read_packet
    cut_frame fold_at put_time slid_bytes
lost-stays = refl

pub nested-slides : NestedSlides
unfolding number bytes size depth read_text length_of size_of start_of bundle_by element_by elements_by packet_by packet_at read_packet
    cut_frame fold_at put_time slid_bytes
nested-slides = refl
