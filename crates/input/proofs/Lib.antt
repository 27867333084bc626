mod Consumed
