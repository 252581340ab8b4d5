mod StampedOctets
mod WorkedMoments
